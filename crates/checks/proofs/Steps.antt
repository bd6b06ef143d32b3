-- The steps of the code that judges, over plain values. Assumes nothing.
use mathlib.Core.Path.{◌≡◌, refl, sym, ap, ap₂, ◌∙◌}
use mathlib.Core.Bool.{Bool, true, false, cond, ◌&&◌, ◌||◌}
use mathlib.Core.List.{List}
use Prim.Native.Nat.{ℕ, ◌+◌, ◌≤◌, ◌<◌}
use native.Mathlib.Omega.{arith}
use lib.ListN.{length, take}
use lib.Dec.{eqb}
use borrow.Author.Tests.{leb-true, le-leb, lt-leb, eqb-true, eq-eqb, ne_eqb}
use Rattle.answer_types.specs.Verdict.{Verdict, none, done, refused}
use Rattle.byte_strings.specs.Lists.{same_list, total}
use Rattle.byte_strings.proofs.Bools.{both_true}
use Rattle.file_format.specs.Sizes.{most_chunks, used_tree, used_signatures, used_bitfield}
use Rattle.file_format.specs.Stored.{stored_root_sizes}
use Rattle.file_format.specs.Belongs.{Register}
use Rattle.checks.specs.Checks.{judged, signed_right, holds, headed, adds_up, later_checks, register_checks}
use Rattle.checks.specs.Lent.{long_right, heads_right}
use Rattle.checks.proofs.Later.{ladder, by_number}

-- ---- a row of tests

pub and_stop : (a b : Bool) → a ≡ false → false ≡ a && b
and_stop false b e = refl
and_stop true b e = let z : ◌≡◌ {A = ℕ} 0 1 = cc in absurd (omega arith)

pub and_pass : (a b r : Bool) → a ≡ true → r ≡ b → r ≡ a && b
and_pass true b r e f = f
and_pass false b r e f = let z : ◌≡◌ {A = ℕ} 0 1 = cc in absurd (omega arith)

-- ---- number 3

pub signed_same : (n s : ℕ) → s ≡ n → true ≡ signed_right n s
signed_same n s e = ap (λ (b : Bool). b || eqb (s + 1) n) (sym (eq-eqb s n e))

pub signed_next : (n s : ℕ) → (s ≡ n → ⊥) → eqb (s + 1) n ≡ signed_right n s
signed_next n s d = ap (λ (b : Bool). b || eqb (s + 1) n) (sym (ne_eqb s n d))

pub signed_above : (n s : ℕ) → n < s → false ≡ signed_right n s
signed_above n s h = sym (ne_eqb (s + 1) n (λ e. omega arith)) ∙ signed_next n s (λ e. omega arith)

-- whichever it is, s is at most n
pub signed_le : (n s : ℕ) → signed_right n s ≡ true → s ≤ n
signed_le n s e = pick (eqb s n) refl
  where
    pick : (b : Bool) → eqb s n ≡ b → s ≤ n
    pick true f = omega (arith, eqb-true s n f)
    pick false f = omega (arith, eqb-true (s + 1) n (ap (λ (b : Bool). b || eqb (s + 1) n) (sym f) ∙ e))

-- ---- numbers 4 and 5

pub short_of : {u used : ℕ} (xs : List ℕ) → u ≡ used → length xs < u → holds xs used ≡ false
short_of {u} {used} xs e h = lt-leb used (length xs) (omega arith)

pub long_of_lem : {u used : ℕ} (xs : List ℕ) → u ≡ used → u ≤ length xs → holds xs used ≡ true
long_of_lem {u} {used} xs e h = le-leb used (length xs) (omega arith)

pub head_is : (xs : List ℕ) {h header : List ℕ} {b v : Bool} → h ≡ header → b ≡ same_list (take 32 xs) h → b ≡ v → headed xs header ≡ v
head_is xs e f g = sym (ap (same_list (take 32 xs)) e) ∙ sym f ∙ g

-- ---- what a passed number gives to the next

pub record Rooms (r : Register) : Type 0 where
  pub tree : used_tree r.n ≤ length r.tree
  pub heads : (32 ≤ length r.tree) × (32 ≤ length r.signatures) × (32 ≤ length r.bitfield)

pub rooms : (r : Register) → long_right r ≡ true → Rooms r
unfolding long_right used_tree used_signatures used_bitfield
rooms r e =
    let a = both_true _ _ e in
    let b = both_true _ _ a.1 in
    let c = both_true _ _ b.1 in
    let t = leb-true (used_tree r.n) (length r.tree) a.0 in
    let s = leb-true (used_signatures r.s) (length r.signatures) b.0 in
    let f = leb-true (used_bitfield r.n) (length r.bitfield) c.0 in
    record { tree = t; heads = (omega arith, omega arith, omega arith) }

-- ---- the answers

-- the verdict v, where the four tests came out as a, b, c and d
pub answered : (r : Register) {v : Verdict} {a b c d : Bool} → signed_right r.n r.s ≡ a → long_right r ≡ b
    → heads_right r.tree r.signatures r.bitfield ≡ c → eqb (total (stored_root_sizes r.tree r.n)) r.size ≡ d
    → v ≡ ladder a b c d done
    → v ≡ judged (later_checks r) done
unfolding adds_up
answered r {a = a} {b} e f g h w =
    w
    ∙ sym
    (by_number r done
    ∙ ap₂ (λ (x y : Bool). ladder x y (heads_right r.tree r.signatures r.bitfield) (eqb (total (stored_root_sizes r.tree r.n)) r.size) done) e f
    ∙ ap₂ (λ (x y : Bool). ladder a b x y done) g h)

pub over : (r : Register) (v : Verdict) → most_chunks < r.n → v ≡ refused 2 none → v ≡ judged (register_checks r) done
unfolding judged register_checks
over r v h e =
    e ∙ ap (λ (b : Bool). cond b (judged (later_checks r) done) (refused 2 none)) (sym (lt-leb r.n most_chunks h))

pub not_over : (r : Register) (v : Verdict) → r.n ≤ most_chunks → v ≡ judged (later_checks r) done → v ≡ judged (register_checks r) done
unfolding judged register_checks
not_over r v h e =
    e ∙ ap (λ (b : Bool). cond b (judged (later_checks r) done) (refused 2 none)) (sym (le-leb r.n most_chunks h))
