-- A range's bytes are judged exactly. Assumes nothing.
use Prim.Native.Nat.{ℕ, ◌+◌, ◌≤◌, ◌<◌}
use native.Mathlib.Omega.{arith}
use native.Mathlib.Nat.{zero-add}
use mathlib.Core.Path.{◌≡◌, refl, sym, ap, ◌∙◌}
use mathlib.Core.Logic.{◌⊎◌, inl, inr, ⊎_elim}
use mathlib.Core.Bool.{Bool, true, false, ◌||◌}
use mathlib.Core.List.{List}
use lib.ListN.{length, get_or}
use lib.Dec.{eqb}
use lib.Seq.{ext_get_or}
use borrow.Author.Tests.{eqb-true, eq-eqb, le-leb}
use Rattle.byte_strings.specs.Lists.{part}
use Rattle.byte_strings.specs.Lowest.{Lowest, nowhere, first}
use Rattle.byte_strings.proofs.Lists.{get_d_part, length_part}
use Rattle.byte_strings.proofs.Lowest.{nowhere_right, right_nowhere}
use Rattle.journal.specs.Ranges.{Range, replaced, fresh, blank, witness, start}
use Rattle.journal.specs.Form.{Fits}
use Rattle.journal_meeting.specs.Between.{right_at, judged_range, in_file, shifted, met_range}
use Rattle.theorem_journal_recovers.specs.Recovers.{Mixed}
use Rattle.theorem_journal_recovers.proofs.Recovers.{said}

or_true : (a b : Bool) → (a || b) ≡ true → (a ≡ true) ⊎ (b ≡ true)
or_true true b x = inl refl
or_true false b x = inr x

or_right : (a : Bool) → (a || true) ≡ true
or_right true = refl
or_right false = refl

module _ (f o n : List ℕ) (at i : ℕ) where
  right_either : right_at f o n at i ≡ true → (get_or f (at + i) 0 ≡ get_or o i 0) ⊎ (get_or f (at + i) 0 ≡ get_or n i 0)
  unfolding right_at
  right_either e =
      ⊎_elim (λ x. inl (eqb-true _ _ x)) (λ x. inr (eqb-true _ _ x)) (or_true (eqb (get_or f (at + i) 0) (get_or o i 0)) (eqb (get_or f (at + i) 0) (get_or n i 0)) e)

  either_right : (get_or f (at + i) 0 ≡ get_or o i 0) ⊎ (get_or f (at + i) 0 ≡ get_or n i 0) → right_at f o n at i ≡ true
  unfolding right_at
  either_right (inl e) = ap (λ (b : Bool). b || eqb (get_or f (at + i) 0) (get_or n i 0)) (eq-eqb _ _ e)
  either_right (inr e) = ap (λ (b : Bool). eqb (get_or f (at + i) 0) (get_or o i 0) || b) (eq-eqb _ _ e) ∙ or_right (eqb (get_or f (at + i) 0) (get_or o i 0))

range_mixed : (m : ℕ) (f : List ℕ) (r : Range) → m ≤ length f → Fits m r → judged_range f r ≡ nowhere → Mixed f r
unfolding judged_range
range_mixed m f (replaced at o n) l x e = λ i h.
    right_either f o n at i (ap (right_at f o n at) (sym (zero-add i)) ∙ nowhere_right (right_at f o n at) 0 (length n) e i h)
range_mixed m f (fresh at n) l x e = tt
range_mixed m f (blank at k) l x e = tt
range_mixed m f (witness at w) l x e =
    let d : length (part f at (length w)) ≡ length w = length_part f at (length w) (omega arith) in
    ext_get_or 0 (part f at (length w)) w d
    (λ i h.
    let j : i < length w = omega arith in
    get_d_part f at (length w) i 0 j
    ∙ ⊎_elim (λ y. y) (λ y. y) (right_either f w w at i (ap (right_at f w w at) (sym (zero-add i)) ∙ nowhere_right (right_at f w w at) 0 (length w) e i j)))

mixed_range : (f : List ℕ) (r : Range) → Mixed f r → judged_range f r ≡ nowhere
unfolding judged_range
mixed_range f (replaced at o n) x =
    right_nowhere (right_at f o n at) 0 (length n) (λ j h. ap (right_at f o n at) (zero-add j) ∙ either_right f o n at j (x j h))
mixed_range f (fresh at n) x = refl
mixed_range f (blank at k) x = refl
mixed_range f (witness at w) x =
    right_nowhere (right_at f w w at) 0 (length w) (λ j h. ap (right_at f w w at) (zero-add j) ∙ either_right f w w at j (inl (said f at w j x h)))

-- a range with bytes of before lies in a file that is long enough
in_file_lem : (m : ℕ) (f : List ℕ) (r : Range) → m ≤ length f → Fits m r → in_file f r ≡ true
unfolding in_file
in_file_lem m f (replaced at o n) l x = let a = x.0 in let b = x.1 in le-leb (at + length n) (length f) (omega arith)
in_file_lem m f (fresh at n) l x = refl
in_file_lem m f (blank at k) l x = refl
in_file_lem m f (witness at w) l x = le-leb (at + length w) (length f) (omega arith)

shifted_nowhere : (at : ℕ) (l : Lowest) → shifted at l ≡ nowhere → l ≡ nowhere
unfolding shifted
shifted_nowhere at nowhere e = refl
shifted_nowhere at (first i) e = let z : ◌≡◌ {A = ℕ} 0 1 = cc in absurd (omega arith)

module _ (m : ℕ) (f : List ℕ) (r : Range) (l : m ≤ length f) (x : Fits m r) where
  met_is : met_range f r ≡ shifted (start r) (judged_range f r)
  unfolding met_range
  met_is = ap (λ (b : Bool). elim b as (λ y. Lowest) [ true ↦ shifted (start r) (judged_range f r) | false ↦ first (start r) ]) (in_file_lem m f r l x)

  pub met_mixed : met_range f r ≡ nowhere → Mixed f r
  met_mixed e = range_mixed m f r l x (shifted_nowhere (start r) (judged_range f r) (sym met_is ∙ e))

  pub mixed_met : Mixed f r → met_range f r ≡ nowhere
  unfolding shifted
  mixed_met e = met_is ∙ ap (shifted (start r)) (mixed_range f r e)
