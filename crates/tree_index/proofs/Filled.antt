-- Which entries are filled, and where nodes lie among the entries.
-- Assumes nothing.
use Prim.Native.Nat.{ℕ, zero, suc, ◌+◌, ◌-◌, ◌*◌, ◌^◌, ◌≤◌, ◌<◌}
use mathlib.Core.Path.{◌≡◌, refl, sym, ap, ap₂, ◌∙◌}
use mathlib.Core.Bool.{Bool, true, false}
use native.Mathlib.Nat.{add-mul, mul_assoc, one-mul, mul-one, pow-succ'}
use native.Mathlib.Numerals.{add-one}
use native.Mathlib.Omega.{arith}
use borrow.Author.Tests.{leb-true, le-leb, lt-leb}
use lib.Dec.{leb, ltb}
use lib.Pow.{pow_pos}
use Rattle.tree_index.specs.Tree.{index, depth, left_child, right_child, filled, entries}
use Rattle.tree_index.proofs.Index.{depth_index, block_index, by_coordinates, index_sum, pow_twice, left_child_index, right_child_index}

-- where a block ends
pub block_end : (d k : ℕ) → (k + 1) * 2 ^ d ≡ k * 2 ^ d + 2 ^ d
block_end d k = add-mul k 1 (2 ^ d) ∙ ap (λ (x : ℕ). k * 2 ^ d + x) (one-mul (2 ^ d))

pub filled_index : (n d k : ℕ) → filled n (index d k) ≡ leb ((k + 1) * 2 ^ d) n
unfolding filled
filled_index n d k = ap₂ (λ (b e : ℕ). leb ((b + 1) * 2 ^ e) n) (block_index d k) (depth_index d k)

-- the test as a fact, in both directions
pub filled_end : (n d k : ℕ) → filled n (index d k) ≡ true → (k + 1) * 2 ^ d ≤ n
filled_end n d k h = leb-true _ _ (sym (filled_index n d k) ∙ h)

pub end_filled : (n d k : ℕ) → (k + 1) * 2 ^ d ≤ n → filled n (index d k) ≡ true
end_filled n d k h = filled_index n d k ∙ le-leb _ _ h

pub end_hole : (n d k : ℕ) → n < (k + 1) * 2 ^ d → filled n (index d k) ≡ false
end_hole n d k h = filled_index n d k ∙ lt-leb _ _ h

-- a leaf is filled where its chunk is there
pub filled_leaf : (n k : ℕ) → filled n (2 * k) ≡ ltb k n
unfolding index
filled_leaf n k = filled_index n 0 k ∙ ap (λ (x : ℕ). leb x n) (mul-one (k + 1) ∙ add-one k)

-- a filled index is an entry
pub filled_below : (n i : ℕ) → filled n i ≡ true → i < entries n
unfolding entries
filled_below n =
    by_coordinates (λ i. filled n i ≡ true → i < 2 * n - 1)
    (λ d k h. omega (arith, index_sum d k, block_end d k, filled_end n d k h, pow_pos d))

pub hole_past : (n i : ℕ) → entries n ≤ i → filled n i ≡ false
hole_past n i h = pick (filled n i) refl
  where
    pick : (b : Bool) → filled n i ≡ b → filled n i ≡ false
    pick true e = absurd (omega (arith, filled_below n i e))
    pick false e = e

-- the children of a filled parent are filled
pub filled_left : (n d k : ℕ) → filled n (index (suc d) k) ≡ true → filled n (index d (2 * k)) ≡ true
filled_left n d k h =
    end_filled n d (2 * k)
    (omega (arith, filled_end n (suc d) k h, block_end (suc d) k, block_end d (2 * k), pow_twice k d, pow-succ' 2 d, mul_assoc 2 k (2 ^ d)))

pub filled_right : (n d k : ℕ) → filled n (index (suc d) k) ≡ true → filled n (index d (2 * k + 1)) ≡ true
filled_right n d k h =
    end_filled n d (2 * k + 1)
    (omega (arith, filled_end n (suc d) k h, block_end (suc d) k, block_end d (2 * k + 1), block_end d (2 * k), pow_twice k d, pow-succ' 2 d, mul_assoc 2 k (2 ^ d)))

-- the same of an index that is no leaf
filled_child : (child : ℕ → ℕ) (at : ℕ → ℕ) → ((d k : ℕ) → child (index (suc d) k) ≡ index d (at k))
    → ((n d k : ℕ) → filled n (index (suc d) k) ≡ true → filled n (index d (at k)) ≡ true)
    → (n i : ℕ) → 0 < depth i → filled n i ≡ true → filled n (child i) ≡ true
filled_child child at e f n = by_coordinates (λ i. 0 < depth i → filled n i ≡ true → filled n (child i) ≡ true) go
  where
    go : (d k : ℕ) → 0 < depth (index d k) → filled n (index d k) ≡ true → filled n (child (index d k)) ≡ true
    go zero k p h = absurd (omega (arith, depth_index zero k))
    go (suc d) k p h = ap (filled n) (e d k) ∙ f n d k h

pub filled_left_child : (n i : ℕ) → 0 < depth i → filled n i ≡ true → filled n (left_child i) ≡ true
filled_left_child = filled_child left_child (λ k. 2 * k) left_child_index filled_left

pub filled_right_child : (n i : ℕ) → 0 < depth i → filled n i ≡ true → filled n (right_child i) ≡ true
filled_right_child = filled_child right_child (λ k. 2 * k + 1) right_child_index filled_right

-- so they are entries
pub children_below : (n i : ℕ) → 0 < depth i → filled n i ≡ true → (left_child i < entries n) × (right_child i < entries n)
children_below n i p h =
    (filled_below n (left_child i) (filled_left_child n i p h), filled_below n (right_child i) (filled_right_child n i p h))
