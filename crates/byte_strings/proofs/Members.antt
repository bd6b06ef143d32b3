-- Members of lists. Assumes nothing.
use Prim.Native.Nat.{ℕ, zero, suc, ◌+◌, ◌<◌}
use mathlib.Core.Path.{◌≡◌, refl, sym, ap, ◌∙◌, subst, ap₂}
use mathlib.Core.Logic.{◌⊎◌, inl, inr}
use mathlib.Core.List.{List, [], ◌∷◌, ◌++◌, map}
use native.Mathlib.Nat.{not-suc-le-zero, le_of_suc-le-suc, add-zero, add-suc, suc-add}
use native.Mathlib.Omega.{arith}
use lib.ListN.{length, get_or}
use Rattle.byte_strings.specs.Lists.{run, total}

-- a is one of a list
unfoldable pub In : {A : Type 0} → A → List A → Type 0
In a [] = ⊥
In a (x ∷ xs) = (x ≡ a) ⊎ In a xs

module _ {A : Type 0} where
  pub in_left : (a : A) (xs ys : List A) → In a xs → In a (xs ++ ys)
  unfolding In
  in_left a [] ys h = absurd h
  in_left a (x ∷ xs) ys (inl e) = inl e
  in_left a (x ∷ xs) ys (inr h) = inr (in_left a xs ys h)

  pub in_right : (a : A) (xs ys : List A) → In a ys → In a (xs ++ ys)
  unfolding In
  in_right a [] ys h = h
  in_right a (x ∷ xs) ys h = inr (in_right a xs ys h)

  pub in_either : (a : A) (xs ys : List A) → In a (xs ++ ys) → In a xs ⊎ In a ys
  unfolding In
  in_either a [] ys h = inr h
  in_either a (x ∷ xs) ys (inl e) = inl (inl e)
  in_either a (x ∷ xs) ys (inr h) = pick (in_either a xs ys h)
    where
      pick : In a xs ⊎ In a ys → In a (x ∷ xs) ⊎ In a ys
      pick (inl l) = inl (inr l)
      pick (inr r) = inr r

  -- by its place
  pub in_place : (d a : A) (xs : List A) → In a xs → (j : ℕ) × (j < length xs) × (get_or xs j d ≡ a)
  unfolding In
  in_place d a [] h = absurd h
  in_place d a (x ∷ xs) (inl e) = (0, omega arith, e)
  in_place d a (x ∷ xs) (inr h) = let q = in_place d a xs h in (suc q.0, omega (arith, q.1), q.2)

  pub place_in_lem : (d : A) (xs : List A) (j : ℕ) → j < length xs → In (get_or xs j d) xs
  unfolding In
  place_in_lem d [] j h = absurd (not-suc-le-zero h)
  place_in_lem d (x ∷ xs) zero h = inl refl
  place_in_lem d (x ∷ xs) (suc j) h = inr (place_in_lem d xs j (le_of_suc-le-suc h))

  pub in_map : {B : Type 0} (f : B → A) (a : A) (xs : List B) → In a (map f xs) → (b : B) × In b xs × (f b ≡ a)
  unfolding In
  in_map f a [] h = absurd h
  in_map f a (x ∷ xs) (inl e) = (x, inl refl, e)
  in_map f a (x ∷ xs) (inr h) = let q = in_map f a xs h in (q.0, inr q.1, q.2)

  pub map_in : {B : Type 0} (f : B → A) (b : B) (xs : List B) → In b xs → In (f b) (map f xs)
  unfolding In
  map_in f b [] h = absurd h
  map_in f b (x ∷ xs) (inl e) = inl (ap f e)
  map_in f b (x ∷ xs) (inr h) = inr (map_in f b xs h)

  pub in_run_lem : (f : ℕ → A) (a : A) (i k : ℕ) → In a (run f i k) → (j : ℕ) × (j < k) × (f (i + j) ≡ a)
  unfolding In run
  in_run_lem f a i zero h = absurd h
  in_run_lem f a i (suc k) (inl e) = (0, omega arith, ap f (add-zero i) ∙ e)
  in_run_lem f a i (suc k) (inr h) =
      let q = in_run_lem f a (suc i) k h in (suc q.0, omega (arith, q.1), ap f (add-suc i q.0 ∙ sym (suc-add i q.0)) ∙ q.2)

  pub run_in : (f : ℕ → A) (i k j : ℕ) → j < k → In (f (i + j)) (run f i k)
  unfolding In run
  run_in f i zero j h = absurd (not-suc-le-zero h)
  run_in f i (suc k) zero h = inl (sym (ap f (add-zero i)))
  run_in f i (suc k) (suc j) h =
      inr (subst (λ (x : ℕ). In (f x) (run f (suc i) k)) (suc-add i j ∙ sym (add-suc i j)) (run_in f (suc i) k j (le_of_suc-le-suc h)))

-- ---- what is alike, or nothing, for each

-- functions that agree on a list
pub map_same : (f h : ℕ → ℕ) (xs : List ℕ) → ((x : ℕ) → In x xs → f x ≡ h x) → map f xs ≡ map h xs
unfolding In
map_same f h [] e = refl
map_same f h (x ∷ xs) e = ap₂ (λ (y : ℕ) (l : List ℕ). y ∷ l) (e x (inl refl)) (map_same f h xs (λ y m. e y (inr m)))

-- numbers that all count nothing
pub total_none : {A : Type 0} (f : A → ℕ) (xs : List A) → ((x : A) → In x xs → f x ≡ 0) → total (map f xs) ≡ 0
unfolding total In
total_none f [] h = refl
total_none f (x ∷ xs) h = omega (arith, h x (inl refl), total_none f xs (λ y m. h y (inr m)))
