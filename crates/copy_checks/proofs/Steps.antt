-- The checks of a copy number by number, and what a copy is that passes them. Assumes nothing.
use Prim.Native.Nat.{ℕ, ◌≤◌}
use mathlib.Core.Path.{◌≡◌, refl, sym, ap, ap₂, ◌∙◌}
use mathlib.Core.Bool.{Bool, true, false, cond, ◌&&◌}
use mathlib.Core.List.{List, ◌++◌}
use native.Mathlib.Omega.{arith}
use borrow.Author.Tests.{leb-true, le-leb}
use lib.ListN.{length, take}
use Rattle.answer_types.specs.Verdict.{Spot, Verdict, none, tree, done, refused}
use Rattle.byte_strings.specs.Lowest.{Lowest, nowhere, first}
use Rattle.byte_strings.proofs.Lists.{same_eq, same_of}
use Rattle.byte_strings.proofs.Bools.{both_true}
use Rattle.file_format.specs.Headers.{tree_header, bitfield_header}
use Rattle.file_format.specs.Sizes.{most_chunks, used_tree, used_bitfield}
use Rattle.file_format.specs.Inner.{RootsIn}
use Rattle.checks.specs.Checks.{Check, judged, count_right, holds, headed, adds_up}
use Rattle.checks.proofs.Judged.{AllRight, judged_right, judged_done, judged_refused, judged_append}
use Rattle.audit.specs.Audit.{refused_at}
use Rattle.audit.specs.BitfieldEntries.{BitsIn}
use Rattle.copy_checks.specs.Copy.{Copy}
use Rattle.copy_checks.specs.Checks.{lent_checks, size_check, unknown_root, passed_over, copy_judged, partly_judged}
use Rattle.copy_checks.specs.Meaning.{long_right, heads_right}

-- ---- 2, 4 and 5 as three tests

abbrev pub ladder : Bool → Bool → Bool → Verdict → Verdict
ladder a b d next = cond a (cond b (cond d next (refused 5 none)) (refused 4 none)) (refused 2 none)

five : (b₁ b₂ b₃ c₁ c₂ : Bool) (v : Verdict)
    → cond b₁ (cond b₂ (cond b₃ (cond c₁ (cond c₂ v (refused 5 none)) (refused 5 none)) (refused 4 none)) (refused 4 none)) (refused 4 none)
    ≡ cond (b₁ && (b₂ && b₃)) (cond (c₁ && c₂) v (refused 5 none)) (refused 4 none)
five false b₂ b₃ c₁ c₂ v = refl
five true false b₃ c₁ c₂ v = refl
five true true false c₁ c₂ v = refl
five true true true false c₂ v = refl
five true true true true c₂ v = refl

by_number : (c : Copy) (next : Verdict)
    → judged (lent_checks c) next ≡ ladder (count_right c.n) (long_right c) (heads_right c.tree c.bitfield) next
unfolding judged lent_checks long_right heads_right
by_number c next =
    ap (λ (v : Verdict). cond (count_right c.n) v (refused 2 none))
    (five (holds c.tree (used_tree c.n)) (holds c.bitfield (used_bitfield c.n)) (holds c.content c.size)
    (headed c.tree tree_header) (headed c.bitfield bitfield_header) next)

-- the verdict v, where the three tests came out as a, b and d
pub answered : (c : Copy) {v : Verdict} {a b d : Bool} → count_right c.n ≡ a → long_right c ≡ b → heads_right c.tree c.bitfield ≡ d
    → v ≡ ladder a b d done → v ≡ judged (lent_checks c) done
answered c {a = a} e f g w =
    w
    ∙ sym
    (by_number c done ∙ ap (λ (x : Bool). ladder x (long_right c) (heads_right c.tree c.bitfield) done) e
    ∙ ap₂ (λ (x y : Bool). ladder a x y done) f g)

-- number 4 gives number 5 its room
pub heads_room : (c : Copy) → long_right c ≡ true → (32 ≤ length c.tree) × (32 ≤ length c.bitfield)
unfolding long_right used_tree used_bitfield
heads_room c e =
    let a = both_true _ _ e in
    let b = both_true _ _ a.1 in
    let t = leb-true (used_tree c.n) (length c.tree) a.0 in
    let f = leb-true (used_bitfield c.n) (length c.bitfield) b.0 in
    (omega arith, omega arith)

-- ---- a copy that passes 2, 4 and 5

pub record Lent (c : Copy) : Type 0 where
  pub count : c.n ≤ most_chunks
  pub tree : used_tree c.n ≤ length c.tree
  pub bitfield : used_bitfield c.n ≤ length c.bitfield
  pub content : c.size ≤ length c.content
  pub tree_front_lem : take 32 c.tree ≡ tree_header
  pub bitfield_front : take 32 c.bitfield ≡ bitfield_header

right_lent : (c : Copy) → AllRight (lent_checks c) → Lent c
unfolding lent_checks
right_lent c a =
    record {
      count = leb-true _ _ a.0;
      tree = leb-true _ _ a.1.0;
      bitfield = leb-true _ _ a.1.1.0;
      content = leb-true _ _ a.1.1.1.0;
      tree_front_lem = same_eq _ _ a.1.1.1.1.0;
      bitfield_front = same_eq _ _ a.1.1.1.1.1.0;
    }

lent_right : (c : Copy) → Lent c → AllRight (lent_checks c)
unfolding lent_checks
lent_right c p = (
  le-leb c.n most_chunks p.count,
  (
    le-leb (used_tree c.n) (length c.tree) p.tree,
    (
      le-leb (used_bitfield c.n) (length c.bitfield) p.bitfield,
      (
        le-leb c.size (length c.content) p.content,
        (same_of (take 32 c.tree) tree_header p.tree_front_lem, (same_of (take 32 c.bitfield) bitfield_header p.bitfield_front, tt)),
      ),
    ),
  ),
)

pub lent_passed : (c : Copy) (next : Verdict) → judged (lent_checks c) next ≡ done → Lent c × (next ≡ done)
lent_passed c next e = let a = judged_done (lent_checks c) next e in (right_lent c a.0, a.1)

pub lent_of : (c : Copy) → done ≡ judged (lent_checks c) done → Lent c
lent_of c e = (lent_passed c done (sym e)).0

pub lent_passes : (c : Copy) (next : Verdict) → Lent c → judged (lent_checks c) next ≡ next
lent_passes c next p = judged_right (lent_checks c) next (lent_right c p)

pub bits_in : (c : Copy) → Lent c → BitsIn c.bitfield c.n
bits_in c p = record { count = p.count; inside = p.bitfield }

pub roots_in : (c : Copy) → Lent c → RootsIn c.tree c.n
roots_in c p = record { count = p.count; inside = p.tree }

-- ---- and then 20 and 6

abbrev pub sized : Copy → Verdict
sized c = judged (size_check (adds_up c.tree c.n c.size)) done

module _ (c : Copy) where
  pub judge_refused : (m : ℕ) (at : Spot) → refused m at ≡ judged (lent_checks c) done → refused m at ≡ copy_judged c done
  unfolding copy_judged
  judge_refused m at e = sym (judged_refused (lent_checks c) (refused_at 20 tree (unknown_root c) (sized c)) m at (sym e))

  module _ (e : done ≡ judged (lent_checks c) done) where
    pub judge_unknown : (i : ℕ) → first i ≡ unknown_root c → refused 20 (tree i) ≡ copy_judged c done
    unfolding copy_judged refused_at
    judge_unknown i f =
        ap (λ (l : Lowest). refused_at 20 tree l (sized c)) f
        ∙ sym (lent_passes c (refused_at 20 tree (unknown_root c) (sized c)) (lent_of c e))

    pub judge_known : (v : Verdict) → nowhere ≡ unknown_root c → v ≡ sized c → v ≡ copy_judged c done
    unfolding copy_judged refused_at
    judge_known v f g =
        g ∙ ap (λ (l : Lowest). refused_at 20 tree l (sized c)) f
        ∙ sym (lent_passes c (refused_at 20 tree (unknown_root c) (sized c)) (lent_of c e))

-- ---- a copy that passes the checks of every other call

pub record Knowing (c : Copy) : Type 0 where
  pub lent : Lent c
  pub rooted : unknown_root c ≡ nowhere
  pub adds : adds_up c.tree c.n c.size ≡ true

abbrev sized_check : Copy → List Check
sized_check c = size_check (adds_up c.tree c.n c.size)

-- what comes behind 2, 4 and 5
abbrev behind_lent : Copy → Verdict → Verdict
behind_lent c next = refused_at 20 tree (unknown_root c) (judged (sized_check c) next)

pub root_must : (l : Lowest) (next : Verdict) → refused_at 20 tree l next ≡ done → (l ≡ nowhere) × (next ≡ done)
unfolding refused_at
root_must nowhere next e = (refl, e)
root_must (first i) next e = let z : ◌≡◌ {A = ℕ} 0 1 = cc in absurd (omega arith)

pub copy_passed : (c : Copy) (next : Verdict) → copy_judged c next ≡ done → Knowing c × (next ≡ done)
unfolding copy_judged
copy_passed c next e =
    let a = lent_passed c (behind_lent c next) e in
    let b = root_must (unknown_root c) (judged (sized_check c) next) a.1 in
    let d = judged_done (sized_check c) next b.1 in
    (record { lent = a.0; rooted = b.0; adds = d.0.0 }, d.1)

pub copy_passes : (c : Copy) (next : Verdict) → Knowing c → copy_judged c next ≡ next
unfolding copy_judged refused_at
copy_passes c next k =
    lent_passes c (behind_lent c next) k.lent ∙ ap (λ (l : Lowest). refused_at 20 tree l (judged (sized_check c) next)) k.rooted
    ∙ judged_right (sized_check c) next (k.adds, tt)

-- a refusal is the same whatever would have come next
pub copy_refused_by : (c : Copy) (next : Verdict) (m : ℕ) (at : Spot) → copy_judged c done ≡ refused m at → copy_judged c next ≡ refused m at
unfolding copy_judged refused_at
copy_refused_by c next m at e = go (judged (lent_checks c) done) refl
  where
    root : (l : Lowest) → refused_at 20 tree l (judged (sized_check c) done) ≡ refused m at
        → refused_at 20 tree l (judged (sized_check c) next) ≡ refused m at
    root nowhere f = judged_refused (sized_check c) next m at f
    root (first i) f = f

    go : (v : Verdict) → judged (lent_checks c) done ≡ v → judged (lent_checks c) (behind_lent c next) ≡ refused m at
    go done f =
        let p = (lent_passed c done f).0 in
        lent_passes c (behind_lent c next) p ∙ root (unknown_root c) (sym (lent_passes c (behind_lent c done) p) ∙ e)
    go (refused k s) f =
        judged_refused (lent_checks c) (behind_lent c next) k s f ∙ sym (judged_refused (lent_checks c) (behind_lent c done) k s f) ∙ e

-- ---- and 6 where no root is unknown

abbrev partly : Copy → Verdict
partly c = judged (size_check (passed_over (unknown_root c) (adds_up c.tree c.n c.size))) done

module _ (c : Copy) where
  pub partly_refused : (m : ℕ) (at : Spot) → refused m at ≡ judged (lent_checks c) done → refused m at ≡ partly_judged c done
  unfolding partly_judged
  partly_refused m at e = sym (judged_refused (lent_checks c) (partly c) m at (sym e))

  module _ (e : done ≡ judged (lent_checks c) done) where
    pub partly_unknown : (i : ℕ) → first i ≡ unknown_root c → done ≡ partly_judged c done
    unfolding partly_judged judged
    partly_unknown i f =
        ap (λ (l : Lowest). judged (size_check (passed_over l (adds_up c.tree c.n c.size))) done) f
        ∙ sym (lent_passes c (partly c) (lent_of c e))

    pub partly_known : (v : Verdict) → nowhere ≡ unknown_root c → v ≡ sized c → v ≡ partly_judged c done
    unfolding partly_judged
    partly_known v f g =
        g ∙ ap (λ (l : Lowest). judged (size_check (passed_over l (adds_up c.tree c.n c.size))) done) f
        ∙ sym (lent_passes c (partly c) (lent_of c e))

-- ---- a copy that passes the checks of the taking in and of the audit

pub partly_passed : (c : Copy) (next : Verdict) → partly_judged c next ≡ done
    → Lent c × ((passed_over (unknown_root c) (adds_up c.tree c.n c.size) ≡ true) × (next ≡ done))
unfolding partly_judged
partly_passed c next e =
    let a = lent_passed c (judged (size_check (passed_over (unknown_root c) (adds_up c.tree c.n c.size))) next) e in
    let b = judged_done (size_check (passed_over (unknown_root c) (adds_up c.tree c.n c.size))) next a.1 in
    (a.0, (b.0.0, b.1))

pub partly_passes : (c : Copy) (next : Verdict) → Lent c → passed_over (unknown_root c) (adds_up c.tree c.n c.size) ≡ true
    → partly_judged c next ≡ next
unfolding partly_judged
partly_passes c next p h =
    lent_passes c (judged (size_check (passed_over (unknown_root c) (adds_up c.tree c.n c.size))) next) p
    ∙ judged_right (size_check (passed_over (unknown_root c) (adds_up c.tree c.n c.size))) next (h, tt)

-- a refusal is the same whatever would have come next
pub partly_refused_by : (c : Copy) (next : Verdict) (m : ℕ) (at : Spot) → partly_judged c done ≡ refused m at → partly_judged c next ≡ refused m at
unfolding partly_judged
partly_refused_by c next m at e =
    let size : List Check = size_check (passed_over (unknown_root c) (adds_up c.tree c.n c.size)) in
    sym (judged_append (lent_checks c) size next)
    ∙ judged_refused (lent_checks c ++ size) next m at (judged_append (lent_checks c) size done ∙ e)
