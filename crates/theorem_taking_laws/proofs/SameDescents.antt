-- Descents in two tree files with the same lengths wherever one of them reads. Assumes nothing.
use Prim.Native.Nat.{ℕ, zero, suc, ◌+◌, ◌*◌}
use mathlib.Core.Path.{◌≡◌, refl, sym, ap, ap₂, ◌∙◌, subst}
use mathlib.Core.Bool.{Bool, true, false}
use mathlib.Core.Logic.{inl, inr}
use mathlib.Core.List.{List, [], ◌∷◌}
use lib.Dec.{leb, eqb}
use Rattle.byte_strings.proofs.Bools.{chosen}
use Rattle.tree_index.specs.Tree.{index, depth, block, roots}
use Rattle.tree_index.proofs.Index.{index_of}
use Rattle.file_format.specs.Sizes.{longest_chunk}
use Rattle.file_format.specs.Stored.{stored_size}
use Rattle.lookup.specs.Descent.{Ending, stopped, reached, descend, from_roots, descent, always}
use Rattle.lookup.proofs.ReadOrder.{reads_below, reads_from, reads}
use Rattle.byte_strings.proofs.Members.{In}

-- a descent ends alike in two tree files with the same lengths wherever it reads in one of them
module _ (within : ℕ → ℕ → ℕ → ℕ → Bool) (t u : List ℕ) where
  abbrev Same : List ℕ → Type 0
  Same is = (x : ℕ) → In x is → stored_size t x ≡ stored_size u x

  below_same : (d k s : ℕ) → stored_size t (index d k) ≡ stored_size u (index d k) → Same (reads_below within t d k s)
      → descend always within t d k s ≡ descend always within u d k s
  unfolding descend reads_below In
  below_same zero k s e h =
      ap (λ (x : ℕ). chosen (leb x longest_chunk) (reached k s) (stopped (index 0 k))) e
  below_same (suc d) k s e h =
      go (below_same d) (eqb a (b + c)) (within d (2 * k) s b) (λ x m. h x (inr (inr m)))
      ∙ ap (λ (x : ℕ). after x b c) e ∙ ap₂ (λ (x y : ℕ). after (stored_size u (index (suc d) k)) x y) left right
    where
      a : ℕ
      a = stored_size t (index (suc d) k)

      b : ℕ
      b = stored_size t (index d (2 * k))

      c : ℕ
      c = stored_size t (index d (2 * k + 1))

      after : ℕ → ℕ → ℕ → Ending
      after x y z =
          chosen (eqb x (y + z))
          (chosen (within d (2 * k) s y) (descend always within u d (2 * k) s) (descend always within u d (2 * k + 1) (s + y))) (stopped (index (suc d) k))

      left : b ≡ stored_size u (index d (2 * k))
      left = h (index d (2 * k)) (inl refl)

      right : c ≡ stored_size u (index d (2 * k + 1))
      right = h (index d (2 * k + 1)) (inr (inl refl))

      go : ((k s : ℕ) → stored_size t (index d k) ≡ stored_size u (index d k) → Same (reads_below within t d k s) → descend always within t d k s ≡ descend always within u d k s)
          → (x y : Bool)
          → Same (chosen x (chosen y (reads_below within t d (2 * k) s) (reads_below within t d (2 * k + 1) (s + b))) [])
          → chosen x (chosen y (descend always within t d (2 * k) s) (descend always within t d (2 * k + 1) (s + b))) (stopped (index (suc d) k))
          ≡ chosen x (chosen y (descend always within u d (2 * k) s) (descend always within u d (2 * k + 1) (s + b))) (stopped (index (suc d) k))
      go rec true true m = rec (2 * k) s left m
      go rec true false m = rec (2 * k + 1) (s + b) right m
      go rec false y m = refl

  from_same : (is : List ℕ) (s : ℕ) → Same (reads_from within t is s) → from_roots always within t is s ≡ from_roots always within u is s
  unfolding from_roots reads_from In
  from_same [] s h = refl
  from_same (i ∷ is) s h = go (from_same is) (within (depth i) (block i) s (stored_size t i)) (λ x m. h x (inr m)) ∙ ap after here
    where
      here : stored_size t i ≡ stored_size u i
      here = h i (inl refl)

      after : ℕ → Ending
      after x = chosen (within (depth i) (block i) s x) (descend always within u (depth i) (block i) s) (from_roots always within u is (s + x))

      go : ((s : ℕ) → Same (reads_from within t is s) → from_roots always within t is s ≡ from_roots always within u is s) → (x : Bool)
          → Same (chosen x (reads_below within t (depth i) (block i) s) (reads_from within t is (s + stored_size t i)))
          → chosen x (descend always within t (depth i) (block i) s) (from_roots always within t is (s + stored_size t i))
          ≡ chosen x (descend always within u (depth i) (block i) s) (from_roots always within u is (s + stored_size t i))
      go rec true m =
          below_same (depth i) (block i) s (subst (λ (x : ℕ). stored_size t x ≡ stored_size u x) (sym (index_of i)) here) m
      go rec false m = rec (s + stored_size t i) m

  pub descent_same : (n : ℕ) → Same (reads within t n) → descent always within t n ≡ descent always within u n
  unfolding descent reads
  descent_same n h = from_same (roots n) 0 h
