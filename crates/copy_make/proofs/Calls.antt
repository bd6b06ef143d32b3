-- What the code of making a copy needs of the definitions. Assumes nothing.
use Prim.Native.Nat.{ℕ, ◌+◌, ◌-◌, ◌*◌, ◌≤◌}
use mathlib.Core.Path.{◌≡◌, refl, sym, ap, ap₂, ◌∙◌}
use mathlib.Core.Bool.{Bool, true, false, cond, ◌&&◌}
use mathlib.Core.List.{List, ◌++◌}
use native.Mathlib.Omega.{arith}
use borrow.Author.Tests.{leb-true}
use lib.ListN.{length}
use Rattle.answer_types.specs.Verdict.{Spot, Verdict, none, done, refused, unless_refused}
use Rattle.byte_strings.specs.Lists.{put, zeros}
use Rattle.byte_strings.proofs.Lists.{put_append}
use Rattle.tree_index.specs.Tree.{entries}
use Rattle.bitfield.specs.Image.{entry_count}
use Rattle.file_format.specs.Headers.{tree_header, bitfield_header}
use Rattle.file_format.specs.Sizes.{used_tree, used_bitfield}
use Rattle.checks.specs.Checks.{judged, count_right, holds}
use Rattle.checks.proofs.Judged.{judged_done}
use Rattle.copy_checks.specs.Copy.{Copy, Files, files_of, files_lent}
use Rattle.copy_checks.specs.Meaning.{long_right}
use Rattle.copy_make.specs.Make.{make_checks, make_verdict, made_copy, after_making, MakePost, Roomy}

-- ---- 2, and 14 as one test

three : (b₁ b₂ b₃ : Bool) (v : Verdict)
    → cond b₁ (cond b₂ (cond b₃ v (refused 14 none)) (refused 14 none)) (refused 14 none) ≡ cond (b₁ && (b₂ && b₃)) v (refused 14 none)
three false b₂ b₃ v = refl
three true false b₃ v = refl
three true true b₃ v = refl

-- the verdict v, where the two tests came out as a and b
pub answered : (c : Copy) (v : Verdict) (a b : Bool) → count_right c.n ≡ a → long_right c ≡ b → v ≡ cond a (cond b done (refused 14 none)) (refused 2 none)
    → v ≡ make_verdict c
unfolding make_verdict judged make_checks long_right
answered c v a b e f w =
    w
    ∙ sym
    (ap (λ (x : Verdict). cond (count_right c.n) x (refused 2 none))
    (three (holds c.tree (used_tree c.n)) (holds c.bitfield (used_bitfield c.n)) (holds c.content c.size) done)
    ∙ ap₂ (λ (x y : Bool). cond x (cond y done (refused 14 none)) (refused 2 none)) e f)

pub roomy : (c : Copy) → done ≡ make_verdict c → Roomy c
unfolding make_verdict make_checks
roomy c e =
    let a = (judged_done (make_checks c) done (sym e)).0 in
    record { count = leb-true _ _ a.0; tree = leb-true _ _ a.1.0; bitfield = leb-true _ _ a.1.1.0; content = leb-true _ _ a.1.1.1.0 }

-- ---- a header, and zeros behind it

pub blank : (xs a b header : List ℕ) (count : ℕ) → length header ≡ 32 → a ≡ put xs 0 header → b ≡ put a 32 (zeros count) → b ≡ put xs 0 (header ++ zeros count)
blank xs a b header count l e f =
    let q : 32 ≡ 0 + length header = omega arith in
    f ∙ ap₂ (λ (ys : List ℕ) (at : ℕ). put ys at (zeros count)) e q ∙ put_append xs 0 header (zeros count) (omega arith)

-- ---- the three files

pub tree_zeros : (n u : ℕ) → u ≡ used_tree n → u - 32 ≡ 40 * entries n
unfolding used_tree
tree_zeros n u e = omega arith

pub bits_zeros : (n u : ℕ) → u ≡ used_bitfield n → u - 32 ≡ 3328 * entry_count n
unfolding used_bitfield
bits_zeros n u e = omega arith

pub tree_room : (c : Copy) (u : ℕ) → Roomy c → u ≡ used_tree c.n → (32 ≤ u) × (u ≤ length c.tree)
unfolding used_tree
tree_room c u w e = (omega arith, omega (arith, w.tree))

pub bits_room : (c : Copy) (u : ℕ) → Roomy c → u ≡ used_bitfield c.n → (32 ≤ u) × (u ≤ length c.bitfield)
unfolding used_bitfield
bits_room c u w e = (omega arith, omega (arith, w.bitfield))

pub all_written : (c : Copy) (t b d h g : List ℕ) (u v : ℕ) → u ≡ used_tree c.n → v ≡ used_bitfield c.n → h ≡ tree_header → g ≡ bitfield_header
    → t ≡ put c.tree 0 (h ++ zeros (u - 32)) → b ≡ put c.bitfield 0 (g ++ zeros (v - 32)) → d ≡ put c.content 0 (zeros c.size)
    → files_lent t b d ≡ files_of (made_copy c)
unfolding made_copy
all_written c t b d h g u v p q r s x y z =
    let f : t ≡ put c.tree 0 (tree_header ++ zeros (40 * entries c.n)) =
    x ∙ ap₂ (λ (k : List ℕ) (m : ℕ). put c.tree 0 (k ++ zeros m)) r (tree_zeros c.n u p) in
    let e : b ≡ put c.bitfield 0 (bitfield_header ++ zeros (3328 * entry_count c.n)) =
    y ∙ ap₂ (λ (k : List ℕ) (m : ℕ). put c.bitfield 0 (k ++ zeros m)) s (bits_zeros c.n v q) in
    cc

-- ---- the call

module _ (c : Copy) where
  pub made_not : (m : ℕ) (at : Spot) → refused m at ≡ make_verdict c → MakePost c (refused m at) (files_of c)
  unfolding after_making
  made_not m at e = record { answer = e; files = ap (λ (v : Verdict). unless_refused v (files_of (made_copy c)) (files_of c)) e }

  pub made : (left : Files) → done ≡ make_verdict c → left ≡ files_of (made_copy c) → MakePost c done left
  unfolding after_making
  made left e f = record { answer = e; files = f ∙ ap (λ (v : Verdict). unless_refused v (files_of (made_copy c)) (files_of c)) e }
