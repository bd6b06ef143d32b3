-- Laws of the first and of the lowest that a test finds. Assumes nothing.
use Prim.Native.Nat.{ℕ, zero, suc, ◌+◌, ◌≤◌, ◌<◌}
use mathlib.Core.Path.{◌≡◌, refl, sym, ap, ap₂, ◌∙◌}
use mathlib.Core.Bool.{Bool, true, false, cond}
use mathlib.Core.List.{List}
use native.Mathlib.Nat.{add-zero, add-suc, suc-add}
use native.Mathlib.Numerals.{add-one}
use native.Mathlib.Omega.{arith}
use borrow.Author.Tests.{ltb-true, ltb-false}
use lib.Dec.{ltb}
use lib.ListN.{length, get_or, drop, drop_of_length-le}
use lib.Seq.{drop-cons}
use Rattle.byte_strings.specs.Lists.{run}
use Rattle.byte_strings.specs.Lowest.{Lowest, nowhere, first}
use Rattle.lookup.specs.Unknown.{first_unknown}
use Rattle.copy_checks.specs.Least.{lower_of, least_of}

-- ---- the first that is not known: what is left of the list decides

module _ (known : ℕ → Bool) (is : List ℕ) (j : ℕ) where
  pub unknown_on : j < length is → known (get_or is j 0) ≡ true → first_unknown known (drop j is) ≡ first_unknown known (drop (j + 1) is)
  unfolding first_unknown
  unknown_on h e =
      ap (first_unknown known) (drop-cons is j 0 h) ∙ ap (λ (b : Bool). cond b (first_unknown known (drop (suc j) is)) (first (get_or is j 0))) e
      ∙ ap (λ (k : ℕ). first_unknown known (drop k is)) (sym (add-one j))

  pub unknown_off : j < length is → known (get_or is j 0) ≡ false → first_unknown known (drop j is) ≡ first (get_or is j 0)
  unfolding first_unknown
  unknown_off h e =
      ap (first_unknown known) (drop-cons is j 0 h) ∙ ap (λ (b : Bool). cond b (first_unknown known (drop (suc j) is)) (first (get_or is j 0))) e

  pub unknown_end : length is ≤ j → first_unknown known (drop j is) ≡ nowhere
  unfolding first_unknown
  unknown_end h = ap (first_unknown known) (drop_of_length-le is h)

-- ---- the lower of two

pub lower_nowhere : (a : Lowest) → lower_of a nowhere ≡ a
unfolding lower_of
lower_nowhere nowhere = refl
lower_nowhere (first i) = refl

pub lower_assoc : (a b c : Lowest) → lower_of (lower_of a b) c ≡ lower_of a (lower_of b c)
unfolding lower_of
lower_assoc nowhere b c = refl
lower_assoc (first i) nowhere c = refl
lower_assoc (first i) (first j) nowhere = lower_nowhere (cond (ltb i j) (first i) (first j))
lower_assoc (first i) (first j) (first k) = go (ltb i j) (ltb j k) refl refl
  where
    near : (x y : Bool) → ltb i j ≡ x → ltb j k ≡ y → (z : Bool) → ltb i k ≡ z
        → lower_of (cond x (first i) (first j)) (first k) ≡ lower_of (first i) (cond y (first j) (first k))
    near true true p q true r =
        ap (λ (b : Bool). cond b (first i) (first k)) r ∙ sym (ap (λ (b : Bool). cond b (first i) (first j)) p)
    near true true p q false r = absurd (omega (arith, ltb-true i j p, ltb-true j k q, ltb-false i k r))
    near true false p q z r = refl
    near false true p q z r =
        ap (λ (b : Bool). cond b (first j) (first k)) q ∙ sym (ap (λ (b : Bool). cond b (first i) (first j)) p)
    near false false p q true r = absurd (omega (arith, ltb-false i j p, ltb-false j k q, ltb-true i k r))
    near false false p q false r =
        ap (λ (b : Bool). cond b (first j) (first k)) q ∙ sym (ap (λ (b : Bool). cond b (first i) (first k)) r)

    go : (x y : Bool) → ltb i j ≡ x → ltb j k ≡ y
        → lower_of (cond (ltb i j) (first i) (first j)) (first k) ≡ lower_of (first i) (cond (ltb j k) (first j) (first k))
    go x y p q =
        ap (λ (b : Bool). lower_of (cond b (first i) (first j)) (first k)) p ∙ near x y p q (ltb i k) refl
        ∙ sym (ap (λ (b : Bool). lower_of (first i) (cond b (first j) (first k))) q)

-- there is none exactly where both have none
pub lower_none : (a b : Lowest) → lower_of a b ≡ nowhere → (a ≡ nowhere) × (b ≡ nowhere)
unfolding lower_of
lower_none nowhere b e = (refl, e)
lower_none (first i) nowhere e = absurd (let z : ◌≡◌ {A = ℕ} 0 1 = cc in omega arith)
lower_none (first i) (first j) e = go (ltb i j) e
  where
    go : (x : Bool) → cond x (first i) (first j) ≡ nowhere → (first i ≡ nowhere) × (first j ≡ nowhere)
    go true f = absurd (let z : ◌≡◌ {A = ℕ} 0 1 = cc in omega arith)
    go false f = absurd (let z : ◌≡◌ {A = ℕ} 0 1 = cc in omega arith)

-- a row of them, of which the first j were looked at and their lowest is x
pub record Lowering (xs : List Lowest) (x₀ : Lowest) (j : ℕ) (x : Lowest) : Type 0 where
  pub few : j ≤ length xs
  pub same : lower_of x (least_of (drop j xs)) ≡ lower_of x₀ (least_of xs)

module _ (xs : List Lowest) (x₀ : Lowest) where
  pub lowering_none : Lowering xs x₀ 0 x₀
  lowering_none = record { few = omega arith; same = refl }

  pub lowering_next : (j : ℕ) (x y : Lowest) → Lowering xs x₀ j x → j < length xs → y ≡ get_or xs j nowhere → Lowering xs x₀ (j + 1) (lower_of x y)
  unfolding least_of
  lowering_next j x y w h e =
      record {
        few = omega arith;
        same =
            ap (λ (l : Lowest). lower_of (lower_of x l) (least_of (drop (j + 1) xs))) e
            ∙ lower_assoc x (get_or xs j nowhere) (least_of (drop (j + 1) xs))
            ∙ ap (λ (k : ℕ). lower_of x (lower_of (get_or xs j nowhere) (least_of (drop k xs)))) (add-one j)
            ∙ sym (ap (λ (l : List Lowest). lower_of x (least_of l)) (drop-cons xs j nowhere h)) ∙ w.same;
      }

  pub lowering_all : (j : ℕ) (x : Lowest) → Lowering xs x₀ j x → length xs ≤ j → x ≡ lower_of x₀ (least_of xs)
  unfolding least_of
  lowering_all j x w h =
      sym (lower_nowhere x) ∙ sym (ap (λ (l : List Lowest). lower_of x (least_of l)) (drop_of_length-le xs h)) ∙ w.same

-- ---- none of a row

pub least_each : (f : ℕ → Lowest) (i m : ℕ) → least_of (run f i m) ≡ nowhere → (j : ℕ) → j < m → f (i + j) ≡ nowhere
unfolding run least_of
least_each f i zero e j h = absurd (omega arith)
least_each f i (suc m) e zero h = ap f (add-zero i) ∙ (lower_none (f i) (least_of (run f (suc i) m)) e).0
least_each f i (suc m) e (suc j) h =
    ap f (add-suc i j ∙ sym (suc-add i j)) ∙ least_each f (suc i) m (lower_none (f i) (least_of (run f (suc i) m)) e).1 j (omega arith)

pub each_least : (f : ℕ → Lowest) (i m : ℕ) → ((j : ℕ) → i ≤ j → j < i + m → f j ≡ nowhere) → least_of (run f i m) ≡ nowhere
unfolding least_of run lower_of
each_least f i zero h = refl
each_least f i (suc m) h =
    ap₂ lower_of (h i (omega arith) (omega arith)) (each_least f (suc i) m (λ j a b. h j (omega arith) (omega arith)))
