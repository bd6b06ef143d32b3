-- The search for the lowest wrong number in two parts. Assumes nothing.
use Prim.Native.Nat.{ℕ, zero, suc, ◌+◌, ◌-◌, ◌≤◌, ◌<◌}
use mathlib.Core.Path.{◌≡◌, refl, sym, ap, ap₂, ◌∙◌}
use mathlib.Core.Bool.{Bool, true, false}
use native.Mathlib.Nat.{le_refl, zero-add, add-zero, add-suc, suc-add}
use native.Mathlib.Omega.{arith}
use Rattle.byte_strings.specs.Lowest.{Lowest, nowhere, first, lowest}
use Rattle.byte_strings.proofs.Lowest.{step}

-- what a first part finds, or else a second
abbrev or_else : Lowest → Lowest → Lowest
or_else nowhere l = l
or_else (first x) l = first x

or_step : (b : Bool) (i : ℕ) (l m : Lowest) → step b i (or_else l m) ≡ or_else (step b i l) m
or_step true i l m = refl
or_step false i l m = refl

lowest_add : (f : ℕ → Bool) (i a b : ℕ) → lowest f i (a + b) ≡ or_else (lowest f i a) (lowest f (i + a) b)
unfolding lowest
lowest_add f i zero b = ap₂ (lowest f) (sym (add-zero i)) (zero-add b)
lowest_add f i (suc a) b =
    ap (lowest f i) (suc-add a b)
    ∙ ap (step (f i) i) (lowest_add f (suc i) a b ∙ ap (λ (j : ℕ). or_else (lowest f (suc i) a) (lowest f j b)) (suc-add i a ∙ sym (add-suc i a)))
    ∙ or_step (f i) i (lowest f (suc i) a) (lowest f (i + suc a) b)

module _ (f : ℕ → Bool) (i m end : ℕ) (p : i ≤ m) (q : m ≤ end) where
  lowest_cut : lowest f i (end - i) ≡ or_else (lowest f i (m - i)) (lowest f m (end - m))
  lowest_cut =
      let e : end - i ≡ m - i + (end - m) = omega arith in
      let g : i + (m - i) ≡ m = omega arith in
      ap (lowest f i) e ∙ lowest_add f i (m - i) (end - m) ∙ ap (λ (j : ℕ). or_else (lowest f i (m - i)) (lowest f j (end - m))) g

  -- what the first part finds is found
  pub cut_found : (c : ℕ) → first c ≡ lowest f i (m - i) → first c ≡ lowest f i (end - i)
  cut_found c e = sym (lowest_cut ∙ ap (λ (l : Lowest). or_else l (lowest f m (end - m))) (sym e))

  -- where it finds none the search goes on behind it
  pub cut_none : nowhere ≡ lowest f i (m - i) → lowest f i (end - i) ≡ lowest f m (end - m)
  cut_none e = lowest_cut ∙ ap (λ (l : Lowest). or_else l (lowest f m (end - m))) (sym e)

-- where nothing is wrong none is found
pub lowest_none : (f : ℕ → Bool) (i k : ℕ) → ((j : ℕ) → i ≤ j → j < i + k → f j ≡ true) → lowest f i k ≡ nowhere
unfolding lowest
lowest_none f i zero h = refl
lowest_none f i (suc k) h =
    ap (λ (b : Bool). step b i (lowest f (suc i) k)) (h i (le_refl i) (omega arith)) ∙ lowest_none f (suc i) k (λ j p q. h j (omega arith) (omega arith))
