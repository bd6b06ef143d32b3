-- Two tree files with the same lengths at the entries of n chunks: a descent ends alike in both. Assumes nothing.
use Prim.Native.Nat.{ℕ, zero, suc, ◌+◌, ◌*◌, ◌^◌, ◌≤◌, ◌<◌}
use mathlib.Core.Path.{◌≡◌, refl, sym, ap, ◌∙◌, subst}
use mathlib.Core.Bool.{Bool, true}
use mathlib.Core.List.{List, [], ◌∷◌}
use native.Mathlib.Omega.{arith}
use borrow.Author.Tests.{leb-true}
use lib.Dec.{leb, eqb}
use lib.ListN.{length, get_or}
use Rattle.byte_strings.proofs.Bools.{chosen}
use Rattle.tree_index.specs.Tree.{index, depth, block, filled, roots}
use Rattle.tree_index.proofs.Filled.{end_filled}
use Rattle.tree_index.proofs.Roots.{root_filled}
use Rattle.file_format.specs.Sizes.{longest_chunk}
use Rattle.file_format.specs.Stored.{stored_size}
use Rattle.lookup.specs.Descent.{stopped, reached, always, descend, from_roots, descent}
use Rattle.lookup.proofs.Descents.{left_inside, right_end}

module _ (within : ℕ → ℕ → ℕ → ℕ → Bool) (t u : List ℕ) (n : ℕ) (same : (i : ℕ) → filled n i ≡ true → stored_size u i ≡ stored_size t i) where
  node_same : (d k : ℕ) → (k + 1) * 2 ^ d ≤ n → stored_size u (index d k) ≡ stored_size t (index d k)
  node_same d k h = same (index d k) (end_filled n d k h)

  descend_same : (d k start : ℕ) → (k + 1) * 2 ^ d ≤ n → descend always within u d k start ≡ descend always within t d k start
  unfolding descend
  descend_same zero k start h = ap (λ (z : ℕ). chosen (leb z longest_chunk) (reached k start) (stopped (index 0 k))) (node_same 0 k h)
  descend_same (suc d) k start h =
      let lh : (2 * k + 1) * 2 ^ d ≤ n = left_inside d k n h in
      let rh : (2 * k + 1 + 1) * 2 ^ d ≤ n = subst (λ (x : ℕ). x ≤ n) (sym (right_end d k)) h in
      let z = node_same (suc d) k h in
      let l = node_same d (2 * k) lh in
      let r = node_same d (2 * k + 1) rh in
      let x = descend_same d (2 * k) start lh in
      let y : descend always within u d (2 * k + 1) (start + stored_size u (index d (2 * k))) ≡ descend always within t d (2 * k + 1) (start + stored_size t (index d (2 * k))) =
      ap (λ (m : ℕ). descend always within u d (2 * k + 1) (start + m)) l ∙ descend_same d (2 * k + 1) (start + stored_size t (index d (2 * k))) rh in
      λ i. chosen (eqb (z i) (l i + r i)) (chosen (within d (2 * k) start (l i)) (x i) (y i)) (stopped (index (suc d) k))

  from_same : (is : List ℕ) (start : ℕ) → ((j : ℕ) → j < length is → filled n (get_or is j 0) ≡ true) → from_roots always within u is start ≡ from_roots always within t is start
  unfolding from_roots filled
  from_same [] start h = refl
  from_same (i ∷ is) start h =
      let e : filled n i ≡ true = h 0 (omega arith) in
      let z = same i e in
      let x = descend_same (depth i) (block i) start (leb-true ((block i + 1) * 2 ^ depth i) n e) in
      let y : from_roots always within u is (start + stored_size u i) ≡ from_roots always within t is (start + stored_size t i) =
      ap (λ (m : ℕ). from_roots always within u is (start + m)) z ∙ from_same is (start + stored_size t i) (λ j l. h (suc j) (omega arith)) in
      λ j. chosen (within (depth i) (block i) start (z j)) (x j) (y j)

  pub descent_same : descent always within u n ≡ descent always within t n
  unfolding descent
  descent_same = from_same (roots n) 0 (root_filled n)
