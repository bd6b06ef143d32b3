-- Which entries of a list are not known, and the lowest that a test finds in a list. Assumes nothing.
use Prim.Native.Nat.{ℕ}
use mathlib.Core.Path.{◌≡◌, refl, sym, ap, ap₂, ◌∙◌}
use mathlib.Core.Bool.{Bool, true, false, cond}
use mathlib.Core.Logic.{inl, inr}
use mathlib.Core.List.{List, [], ◌∷◌, map}
use Rattle.byte_strings.specs.Lowest.{Lowest, nowhere, first}
use Rattle.byte_strings.proofs.Lowest.{never_first}
use Rattle.lookup.specs.Unknown.{first_unknown}
use Rattle.copy_checks.specs.Least.{lower_of, least_of}
use Rattle.byte_strings.proofs.Members.{In}

-- where each is known, none is unknown
pub none_unknown : (known : ℕ → Bool) (is : List ℕ) → ((j : ℕ) → In j is → known j ≡ true) → first_unknown known is ≡ nowhere
unfolding first_unknown In
none_unknown known [] h = refl
none_unknown known (i ∷ is) h =
    ap (λ (b : Bool). cond b (first_unknown known is) (first i)) (h i (inl refl)) ∙ none_unknown known is (λ j m. h j (inr m))

-- where none is unknown, each is known
pub all_known : (known : ℕ → Bool) (is : List ℕ) → first_unknown known is ≡ nowhere → (j : ℕ) → In j is → known j ≡ true
unfolding first_unknown In
all_known known [] e j i = absurd i
all_known known (x ∷ is) e j i = pick (known x) refl e i (all_known known is)
  where
    pick : (b : Bool) → known x ≡ b → cond b (first_unknown known is) (first x) ≡ nowhere → In j (x ∷ is)
        → (first_unknown known is ≡ nowhere → (j : ℕ) → In j is → known j ≡ true) → known j ≡ true
    pick true f g (inl q) rec = ap known (sym q) ∙ f
    pick true f g (inr l) rec = rec g j l
    pick false f g l rec = never_first x g

-- where a test finds none in each, none is the lowest of all
pub each_least : {A : Type 0} (f : A → Lowest) (gs : List A) → ((g : A) → In g gs → f g ≡ nowhere) → least_of (map f gs) ≡ nowhere
unfolding least_of lower_of In
each_least f [] h = refl
each_least f (g ∷ gs) h = ap₂ lower_of (h g (inl refl)) (each_least f gs (λ x l. h x (inr l)))
