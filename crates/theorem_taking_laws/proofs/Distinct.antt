-- A list without one of its numbers, and lists whose members differ. Assumes nothing.
use Prim.Native.Nat.{ℕ, suc, ◌+◌, ◌<◌}
use mathlib.Core.Path.{◌≡◌, refl, sym, ap, ◌∙◌, subst}
use mathlib.Core.Bool.{Bool, true, false}
use mathlib.Core.Logic.{◌⊎◌, inl, inr}
use mathlib.Core.List.{List, [], ◌∷◌, ◌++◌}
use native.Mathlib.Nat.{add-suc, suc-add}
use native.Mathlib.Omega.{arith}
use borrow.Author.Tests.{eqb-true, eqb-false}
use lib.Dec.{eqb}
use lib.ListN.{length, get_or}
use Rattle.byte_strings.proofs.Bools.{chosen}
use Rattle.packet.specs.Packet.{without}
use Rattle.packet.proofs.Above.{Apart, Distinct}
use Rattle.byte_strings.proofs.Members.{In, in_either, in_place, place_in_lem}

-- ---- without one of its numbers

pub in_without : (a x : ℕ) (is : List ℕ) → In a is → (a ≡ x) ⊎ In a (without x is)
unfolding In without
in_without a x [] h = absurd h
in_without a x (i ∷ is) h = pick (eqb i x) refl (in_without a x is) h
  where
    later : (b : Bool) → (a ≡ x) ⊎ In a (without x is) → (a ≡ x) ⊎ In a (chosen b (without x is) (i ∷ without x is))
    later b (inl e) = inl e
    later true (inr r) = inr r
    later false (inr r) = inr (inr r)

    pick : (b : Bool) → eqb i x ≡ b → (In a is → (a ≡ x) ⊎ In a (without x is)) → (i ≡ a) ⊎ In a is
        → (a ≡ x) ⊎ In a (chosen b (without x is) (i ∷ without x is))
    pick true e rec (inl q) = inl (sym q ∙ eqb-true i x e)
    pick false e rec (inl q) = inr (inl q)
    pick true e rec (inr l) = later true (rec l)
    pick false e rec (inr l) = later false (rec l)

pub without_in : (a x : ℕ) (is : List ℕ) → In a (without x is) → In a is × (a ≡ x → ⊥)
unfolding In without
without_in a x [] h = absurd h
without_in a x (i ∷ is) h = pick (eqb i x) refl (without_in a x is) h
  where
    pick : (b : Bool) → eqb i x ≡ b → (In a (without x is) → In a is × (a ≡ x → ⊥)) → In a (chosen b (without x is) (i ∷ without x is))
        → ((i ≡ a) ⊎ In a is) × (a ≡ x → ⊥)
    pick true e rec l = let q = rec l in (inr q.0, q.1)
    pick false e rec (inl q) = (inl q, λ z. eqb-false i x e (q ∙ z))
    pick false e rec (inr l) = let q = rec l in (inr q.0, q.1)

-- ---- lists whose members differ

pub apart : (x : ℕ) (xs : List ℕ) → (In x xs → ⊥) → Apart x xs
apart x xs h j l e = h (subst (λ (y : ℕ). In y xs) e (place_in_lem 0 xs j l))

pub apart_out : (x : ℕ) (xs : List ℕ) → Apart x xs → In x xs → ⊥
apart_out x xs h i = let q = in_place 0 x xs i in h q.0 q.1 q.2

pub distinct_append : (xs ys : List ℕ) → Distinct xs → Distinct ys → ((x : ℕ) → In x xs → In x ys → ⊥) → Distinct (xs ++ ys)
unfolding Distinct In
distinct_append [] ys a b h = b
distinct_append (x ∷ xs) ys a b h =
    (apart x (xs ++ ys) (λ l. split (in_either x xs ys l)), distinct_append xs ys a.1 b (λ z l r. h z (inr l) r))
  where
    split : In x xs ⊎ In x ys → ⊥
    split (inl l) = apart_out x xs a.0 l
    split (inr r) = h x (inl refl) r

pub distinct_without : (x : ℕ) (is : List ℕ) → Distinct is → Distinct (without x is)
unfolding Distinct without
distinct_without x [] a = tt
distinct_without x (i ∷ is) a = pick (eqb i x) (distinct_without x is a.1)
  where
    pick : (b : Bool) → Distinct (without x is) → Distinct (chosen b (without x is) (i ∷ without x is))
    pick true r = r
    pick false r = (apart i (without x is) (λ l. apart_out i is a.0 (without_in i x is l).0), r)

-- numbers that a function tells apart by their places
pub distinct_by : (f : ℕ → ℕ) (m : ℕ) (xs : List ℕ) → ((j : ℕ) → j < length xs → f (get_or xs j 0) ≡ m + j) → Distinct xs
unfolding Distinct
distinct_by f m [] h = tt
distinct_by f m (x ∷ xs) h = (
  (λ j l e. let a : f (get_or xs j 0) ≡ m + suc j = h (suc j) (omega arith) in let b : f x ≡ m + 0 = h 0 (omega arith) in
      let q : f (get_or xs j 0) ≡ f x = ap f e in omega arith),
  distinct_by f (suc m) xs (λ j l. h (suc j) (omega arith) ∙ add-suc m j ∙ sym (suc-add m j)),
)
