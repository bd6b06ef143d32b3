-- The lowest of ranges is the lowest of what they cover. Assumes nothing.
use Prim.Native.Nat.{ℕ, zero, suc, ◌+◌, ◌≤◌, ◌<◌}
use mathlib.Core.Path.{◌≡◌, refl, ap, ◌∙◌, subst}
use mathlib.Core.Logic.{inl, inr}
use mathlib.Core.Bool.{Bool, true, false, cond}
use mathlib.Core.List.{List, [], ◌∷◌, map}
use native.Mathlib.Omega.{arith}
use native.Mathlib.Decide.{dec_lt}
use borrow.Author.Tests.{ltb-true, ltb-false}
use lib.Dec.{ltb}
use Rattle.byte_strings.specs.Lists.{run}
use Rattle.byte_strings.specs.Lowest.{Lowest, nowhere, first, lowest}
use Rattle.byte_strings.proofs.Lowest.{step}
use Rattle.copy_checks.specs.Least.{lower_of, least_of}
use Rattle.copy_audit.specs.Audit.{wrong_unless}
use Rattle.theorem_parts.specs.Cover.{Some}

-- ---- the order of places

-- x is no higher than y
Below : Lowest → Lowest → Type 0
Below x nowhere = Unit {0}
Below nowhere (first j) = ⊥
Below (first i) (first j) = i ≤ j

below_anti : (x y : Lowest) → Below x y → Below y x → x ≡ y
unfolding Below
below_anti nowhere nowhere p q = refl
below_anti nowhere (first j) p q = absurd p
below_anti (first i) nowhere p q = absurd q
below_anti (first i) (first j) p q = ap first (omega arith)

below_trans : (x y z : Lowest) → Below x y → Below y z → Below x z
unfolding Below
below_trans x y nowhere p q = tt
below_trans x nowhere (first k) p q = absurd q
below_trans nowhere (first j) (first k) p q = absurd p
below_trans (first i) (first j) (first k) p q = omega arith

below_refl : (x : Lowest) → Below x x
unfolding Below
below_refl nowhere = tt
below_refl (first i) = omega arith

-- the lower of two, by the outcome of its test
module _ (i j : ℕ) where
  either : (P : Lowest → Type 0) → (i ≤ j → P (first i)) → (j ≤ i → P (first j)) → P (cond (ltb i j) (first i) (first j))
  either P f g = go (ltb i j) refl
    where
      go : (b : Bool) → ltb i j ≡ b → P (cond b (first i) (first j))
      go true e = let l = ltb-true i j e in f (omega arith)
      go false e = let l = ltb-false i j e in g (omega arith)

lower_left : (x y : Lowest) → Below (lower_of x y) x
unfolding Below lower_of
lower_left nowhere y = tt
lower_left (first i) nowhere = omega arith
lower_left (first i) (first j) = either i j (λ z. Below z (first i)) (λ h. omega arith) (λ h. h)

lower_right : (x y : Lowest) → Below (lower_of x y) y
unfolding Below lower_of
lower_right nowhere y = below_refl y
lower_right (first i) nowhere = tt
lower_right (first i) (first j) = either i j (λ z. Below z (first j)) (λ h. h) (λ h. omega arith)

lower_both : (z x y : Lowest) → Below z x → Below z y → Below z (lower_of x y)
unfolding lower_of
lower_both z nowhere y p q = q
lower_both z (first i) nowhere p q = p
lower_both z (first i) (first j) p q = either i j (Below z) (λ h. p) (λ h. q)

-- ---- the lowest of a run

module _ (f : ℕ → Lowest) where
  run_below : (a k i : ℕ) → a ≤ i → i < a + k → Below (least_of (run f a k)) (f i)
  unfolding least_of run
  run_below a zero i h l = absurd (omega arith)
  run_below a (suc k) i h l = elim (dec_lt a i) [
    | yes p ↦ below_trans (lower_of (f a) (least_of (run f (suc a) k))) (least_of (run f (suc a) k)) (f i) (lower_right (f a) (least_of (run f (suc a) k)))
        (run_below (suc a) k i (omega arith) (omega arith))
    | no p ↦
        let e : a ≡ i = omega arith in
        below_trans (lower_of (f a) (least_of (run f (suc a) k))) (f a) (f i) (lower_left (f a) (least_of (run f (suc a) k))) (at e)
  ]
    where
      at : {a i : ℕ} → a ≡ i → Below (f a) (f i)
      at {a} {i} e = subst (λ (x : ℕ). Below (f a) (f x)) e (below_refl (f a))

  run_above : (z : Lowest) (a k : ℕ) → ((i : ℕ) → a ≤ i → i < a + k → Below z (f i)) → Below z (least_of (run f a k))
  unfolding least_of run Below
  run_above z a zero h = tt
  run_above z a (suc k) h =
      lower_both z (f a) (least_of (run f (suc a) k)) (h a (omega arith) (omega arith)) (run_above z (suc a) k (λ i p q. h i (omega arith) (omega arith)))

-- ---- the lowest of a list

module _ {A : Type 0} (g : A → Lowest) where
  some_below : (P : A → Type 0) (y : Lowest) → ((x : A) → P x → Below (g x) y) → (xs : List A) → Some P xs → Below (least_of (map g xs)) y
  unfolding least_of Some
  some_below P y h [] s = absurd s
  some_below P y h (x ∷ xs) (inl p) =
      below_trans (lower_of (g x) (least_of (map g xs))) (g x) y (lower_left (g x) (least_of (map g xs))) (h x p)
  some_below P y h (x ∷ xs) (inr s) =
      below_trans (lower_of (g x) (least_of (map g xs))) (least_of (map g xs)) y (lower_right (g x) (least_of (map g xs))) (some_below P y h xs s)

  all_above : (z : Lowest) → ((x : A) → Below z (g x)) → (xs : List A) → Below z (least_of (map g xs))
  unfolding least_of Below
  all_above z h [] = tt
  all_above z h (x ∷ xs) = lower_both z (g x) (least_of (map g xs)) (h x) (all_above z h xs)

-- ---- ranges of a whole

-- each x stands for the numbers from lo x on, len x of them, all of the whole's, and each of the whole's belongs to one
module _ {A : Type 0} (f : ℕ → Lowest) (start count : ℕ) (lo len : A → ℕ) (inside : (x : A) (i : ℕ) → lo x ≤ i → i < lo x + len x → (start ≤ i) × (i < start + count)) where
  abbrev ranged : A → Lowest
  ranged x = least_of (run f (lo x) (len x))

  pub ranges_least : (xs : List A) → ((i : ℕ) → start ≤ i → i < start + count → Some (λ x. (lo x ≤ i) × (i < lo x + len x)) xs)
      → least_of (map ranged xs) ≡ least_of (run f start count)
  ranges_least xs covered =
      below_anti (least_of (map ranged xs)) (least_of (run f start count))
      (run_above f (least_of (map ranged xs)) start count
      (λ i h l. some_below ranged (λ x. (lo x ≤ i) × (i < lo x + len x)) (f i) (λ x p. run_below f (lo x) (len x) i p.0 p.1) xs (covered i h l)))
      (all_above ranged (least_of (run f start count))
      (λ x. run_above f (least_of (run f start count)) (lo x) (len x)
      (λ i h l. run_below f start count i (inside x i h l).0 (inside x i h l).1)) xs)

-- ---- the lowest that a test finds wrong, as the lowest of what each number says

pub wrong_at : (ℕ → Bool) → ℕ → Lowest
wrong_at right i = wrong_unless (right i) i

pub lowest_least : (right : ℕ → Bool) (i k : ℕ) → lowest right i k ≡ least_of (run (wrong_at right) i k)
unfolding lowest least_of run wrong_at Below lower_of
lowest_least right i zero = refl
lowest_least right i (suc k) =
    ap (step (right i) i) (lowest_least right (suc i) k) ∙ go (right i)
  where
    rest : Lowest
    rest = least_of (run (wrong_at right) (suc i) k)

    over : (b : Bool) (j : ℕ) → i ≤ j → Below (first i) (wrong_unless b j)
    over true j h = tt
    over false j h = h

    keeps : (y : Lowest) → Below (first i) y → first i ≡ lower_of (first i) y
    keeps nowhere p = refl
    keeps (first j) p = either i j (λ z. first i ≡ z) (λ h. refl) (λ h. ap first (omega arith))

    go : (b : Bool) → step b i rest ≡ lower_of (wrong_unless b i) rest
    go true = refl
    go false = keeps rest (run_above (wrong_at right) (first i) (suc i) k (λ j h l. over (right j) j (omega arith)))
