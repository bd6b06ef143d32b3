-- The entries that a descent reads: where none is unknown each is known, and each is one of n chunks. Assumes nothing.
use Prim.Native.Nat.{ℕ, zero, suc, ◌+◌, ◌*◌}
use mathlib.Core.Path.{◌≡◌, refl, ap, ◌∙◌, subst}
use mathlib.Core.Bool.{Bool, true, false}
use mathlib.Core.Logic.{inl, inr}
use mathlib.Core.List.{List, [], ◌∷◌}
use lib.Dec.{eqb}
use Rattle.byte_strings.proofs.Bools.{chosen}
use Rattle.tree_index.specs.Tree.{index, depth, block, filled, roots}
use Rattle.tree_index.proofs.Index.{index_of}
use Rattle.tree_index.proofs.Filled.{filled_left, filled_right}
use Rattle.file_format.specs.Stored.{stored_size}
use Rattle.lookup.proofs.ReadOrder.{reads_below, reads_from, reads}
use Rattle.byte_strings.proofs.Members.{In}
use Rattle.theorem_taking_laws.proofs.Roots.{in_roots_filled}
pub use Rattle.theorem_taking_laws.proofs.Unknown.{all_known}

-- ---- a descent among n chunks reads none but their entries

module _ (within : ℕ → ℕ → ℕ → ℕ → Bool) (t : List ℕ) (n : ℕ) where
  abbrev Filled : List ℕ → Type 0
  Filled is = (j : ℕ) → In j is → filled n j ≡ true

  either_filled : (b : Bool) (xs ys : List ℕ) → Filled xs → Filled ys → Filled (chosen b xs ys)
  either_filled true xs ys f g = f
  either_filled false xs ys f g = g

  below_filled : (d k start : ℕ) → filled n (index d k) ≡ true → Filled (reads_below within t d k start)
  unfolding reads_below In
  below_filled zero k start f j i = absurd i
  below_filled (suc d) k start f j (inl e) = subst (λ (x : ℕ). filled n x ≡ true) e (filled_left n d k f)
  below_filled (suc d) k start f j (inr (inl e)) = subst (λ (x : ℕ). filled n x ≡ true) e (filled_right n d k f)
  below_filled (suc d) k start f j (inr (inr i)) =
      either_filled (eqb (stored_size t (index (suc d) k)) (stored_size t (index d (2 * k)) + stored_size t (index d (2 * k + 1))))
      (chosen (within d (2 * k) start (stored_size t (index d (2 * k)))) (reads_below within t d (2 * k) start)
      (reads_below within t d (2 * k + 1) (start + stored_size t (index d (2 * k)))))
      []
      (either_filled (within d (2 * k) start (stored_size t (index d (2 * k)))) (reads_below within t d (2 * k) start)
      (reads_below within t d (2 * k + 1) (start + stored_size t (index d (2 * k)))) (below_filled d (2 * k) start (filled_left n d k f))
      (below_filled d (2 * k + 1) (start + stored_size t (index d (2 * k))) (filled_right n d k f)))
      (λ x l. absurd l) j i

  from_filled : (is : List ℕ) (start : ℕ) → Filled is → Filled (reads_from within t is start)
  unfolding reads_from In
  from_filled [] start f j i = absurd i
  from_filled (x ∷ is) start f j (inl e) = f j (inl e)
  from_filled (x ∷ is) start f j (inr i) =
      either_filled (within (depth x) (block x) start (stored_size t x)) (reads_below within t (depth x) (block x) start) (reads_from within t is (start + stored_size t x))
      (below_filled (depth x) (block x) start (ap (filled n) (index_of x) ∙ f x (inl refl))) (from_filled is (start + stored_size t x) (λ y l. f y (inr l))) j i

  pub reads_filled : (j : ℕ) → In j (reads within t n) → filled n j ≡ true
  unfolding reads
  reads_filled = from_filled (roots n) 0 (in_roots_filled n)
