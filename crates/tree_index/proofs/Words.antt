-- The tree in 64-bit words, with indexes below 2^22: sizes, and shifts that lose no bit.
-- Assumes nothing.
use Prim.Native.Nat.{ℕ, zero, suc, ◌+◌, ◌-◌, ◌*◌, ◌/◌, ◌%◌, ◌^◌, ◌≤◌, ◌<◌}
use mathlib.Core.Path.{◌≡◌, sym, ap, ◌∙◌, subst}
use native.Mathlib.Nat.{mul_comm, mul_assoc, add-mul, pow-succ', le_of_suc-le-suc}
use native.Mathlib.Omega.{arith}
use lib.Dec.{leb}
use lib.Pow.{shl_exact, shr_le}
use Rattle.tree_index.specs.Tree.{index, depth, block, filled, left_child, right_child}
use Rattle.tree_index.proofs.Index.{depth_index, block_index, index_of, by_coordinates, index_leaf, index_sum, index_closed, pow_below, pow_le_index, pow_twice}
use Rattle.tree_index.proofs.Index.{left_child_index, right_child_index}
use Rattle.tree_index.proofs.Filled.{block_end}

pub depth_small : (i : ℕ) → i < 4194304 → depth i ≤ 22
depth_small =
    by_coordinates (λ i. i < 4194304 → depth i ≤ 22)
    (λ d k h. subst (λ (x : ℕ). x ≤ 22) (sym (depth_index d k)) (le_of_suc-le-suc (pow_below d 23 (omega (arith, pow_le_index d k)))))

pub block_small : (i : ℕ) → block i ≤ i
unfolding block
block_small i = shr_le i (depth i + 1)

pub leaf_block : (i : ℕ) → i % 2 ≡ 0 → i / 2 ≡ block i
leaf_block i e =
    let leaf : index 0 (i / 2) ≡ i = index_leaf (i / 2) ∙ omega arith in
    sym (block_index 0 (i / 2)) ∙ ap block leaf

pub node_word : (d k : ℕ) → d < 32 → k < 8388608 → (2 * k + 1) * 2 ^ d % 2 ^ 64 ≡ index d k + 1
node_word d k h l = shl_exact 24 d 64 (omega arith) (omega arith) ∙ mul_comm (2 * k + 1) (2 ^ d) ∙ sym (index_closed d k)

-- a block ends no later than its index
pub end_below : (i : ℕ) → (block i + 1) * 2 ^ depth i ≤ i + 1
end_below i = omega (arith, block_end (depth i) (block i), index_sum (depth i) (block i), index_of i)

-- the definitions, from the coordinates that were computed
pub block_word : (i d : ℕ) → d ≡ depth i → i / 2 ^ (d + 1) ≡ block i
unfolding block
block_word i d e = ap (λ (x : ℕ). i / 2 ^ (x + 1)) e

-- a child stands half of its parent's block beside it
half_beside : (d k : ℕ) → (index d (2 * k) + 2 ^ d ≡ index (suc d) k) × (index (suc d) k + 2 ^ d ≡ index d (2 * k + 1))
half_beside d k =
    let parent = index_sum (suc d) k in
    let twice = pow_twice k d in
    let power = pow-succ' 2 d in
    let even = mul_assoc 2 k (2 ^ d) in (
      omega (arith, index_sum d (2 * k), parent, twice, power, even),
      omega (arith, index_sum d (2 * k + 1), add-mul (2 * k) 1 (2 ^ d), parent, twice, power, even),
    )

abbrev Beside : ℕ → Type 0
Beside i = (left_child i + 2 ^ (depth i - 1) ≡ i) × (i + 2 ^ (depth i - 1) ≡ right_child i)

children_beside : (i : ℕ) → 0 < depth i → Beside i
children_beside = by_coordinates (λ i. 0 < depth i → Beside i) go
  where
    go : (d k : ℕ) → 0 < depth (index d k) → Beside (index d k)
    go zero k h = absurd (omega (arith, depth_index 0 k))
    go (suc d) k h =
        let half : 2 ^ (depth (index (suc d) k) - 1) ≡ 2 ^ d =
        ap (λ (x : ℕ). 2 ^ (x - 1)) (depth_index (suc d) k) ∙ ap (λ (x : ℕ). 2 ^ x) (omega arith)
        in (
          omega (arith, half, left_child_index d k, (half_beside d k).0),
          omega (arith, half, right_child_index d k, (half_beside d k).1),
        )

-- the same in words, from the depth that was computed
power_exact : (d : ℕ) → d ≤ 22 → 1 * 2 ^ d % 2 ^ 64 ≡ 2 ^ d
power_exact d h = shl_exact 1 d 64 (omega arith) (omega arith) ∙ omega arith

half_exact : (i d : ℕ) → i < 4194304 → d ≡ depth i → 1 * 2 ^ (d - 1) % 2 ^ 64 ≡ 2 ^ (depth i - 1)
half_exact i d h e = power_exact (d - 1) (omega (arith, depth_small i h)) ∙ ap (λ (x : ℕ). 2 ^ (x - 1)) e

size_exact : (i d : ℕ) → i < 4194304 → d ≡ depth i → 1 * 2 ^ d % 2 ^ 64 ≡ 2 ^ depth i
size_exact i d h e = power_exact d (omega (arith, depth_small i h)) ∙ ap (λ (x : ℕ). 2 ^ x) e

-- a block ends as far behind its index as it begins before it
pub filled_word : (n i d : ℕ) → i < 4194304 → d ≡ depth i → leb ((i + 1 + 1 * 2 ^ d % 2 ^ 64) / 2) n ≡ filled n i
unfolding filled
filled_word n i d h e =
    let end : (i + 1 + 1 * 2 ^ d % 2 ^ 64) / 2 ≡ (block i + 1) * 2 ^ depth i =
    omega (arith, size_exact i d h e, block_end (depth i) (block i), index_sum (depth i) (block i), index_of i)
    in
    ap (λ (x : ℕ). leb x n) end

pub size_small : (i d : ℕ) → i < 4194304 → d ≡ depth i → 1 * 2 ^ d % 2 ^ 64 ≤ i + 1
size_small i d h e = omega (arith, size_exact i d h e, index_sum (depth i) (block i), index_of i)

pub left_word : (i d : ℕ) → i < 4194304 → 0 < depth i → d ≡ depth i → left_child i + 1 * 2 ^ (d - 1) % 2 ^ 64 ≡ i
left_word i d h p e = ap (λ (x : ℕ). left_child i + x) (half_exact i d h e) ∙ (children_beside i p).0

pub right_word : (i d : ℕ) → i < 4194304 → 0 < depth i → d ≡ depth i → i + 1 * 2 ^ (d - 1) % 2 ^ 64 ≡ right_child i
right_word i d h p e = ap (λ (x : ℕ). i + x) (half_exact i d h e) ∙ (children_beside i p).1

-- half of a block is no more than its index and one
pub half_small : (i d : ℕ) → i < 4194304 → 0 < depth i → d ≡ depth i → 1 * 2 ^ (d - 1) % 2 ^ 64 ≤ i
half_small i d h p e = omega (arith, left_word i d h p e)
