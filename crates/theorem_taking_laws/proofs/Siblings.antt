-- A node's sibling and parent. Assumes nothing.
use Prim.Native.Nat.{ℕ, suc, ◌+◌, ◌-◌, ◌*◌, ◌/◌, ◌%◌}
use mathlib.Core.Path.{◌≡◌, sym, ap, ap₂, ◌∙◌}
use mathlib.Core.Logic.{◌⊎◌, inl, inr}
use native.Mathlib.Numerals.{add-one}
use native.Mathlib.Omega.{arith}
use Rattle.tree_index.specs.Tree.{index, depth, block, parent}
use Rattle.tree_index.proofs.Index.{depth_index, block_index}
use Rattle.tree_index.proofs.Roots.{bit}
use Rattle.packet.specs.Packet.{beside}
use Rattle.packet.proofs.Rows.{beside_even, beside_odd}

-- the node beside another under one parent
unfoldable pub sibling : ℕ → ℕ
sibling i = index (depth i) (beside (block i))

pub sibling_index : (d k : ℕ) → sibling (index d k) ≡ index d (beside k)
unfolding sibling
sibling_index d k = ap₂ (λ (x y : ℕ). index x (beside y)) (depth_index d k) (block_index d k)

pub parent_index : (d k : ℕ) → parent (index d k) ≡ index (suc d) (k / 2)
unfolding parent
parent_index d k = ap₂ (λ (x y : ℕ). index x (y / 2)) (ap (λ (x : ℕ). x + 1) (depth_index d k) ∙ add-one d) (block_index d k)

pub beside_half : (k : ℕ) → beside k / 2 ≡ k / 2
beside_half k = pick (bit k)
  where
    pick : (k % 2 ≡ 0) ⊎ (k % 2 ≡ 1) → beside k / 2 ≡ k / 2
    pick (inl e) = omega (arith, beside_even k e)
    pick (inr e) = omega (arith, beside_odd k e)

pub beside_other : (k : ℕ) → beside k ≡ k → ⊥
beside_other k h = pick (bit k)
  where
    pick : (k % 2 ≡ 0) ⊎ (k % 2 ≡ 1) → ⊥
    pick (inl e) = omega (arith, beside_even k e)
    pick (inr e) = omega (arith, beside_odd k e)

pub beside_twice : (k : ℕ) → beside (beside k) ≡ k
beside_twice k = pick (bit k)
  where
    pick : (k % 2 ≡ 0) ⊎ (k % 2 ≡ 1) → beside (beside k) ≡ k
    pick (inl e) =
        let a : k + 1 ≡ beside k = beside_even k e in
        let b : (k + 1) % 2 ≡ 1 = omega arith in
        omega (arith, ap beside (sym a), beside_odd (k + 1) b)
    pick (inr e) =
        let a : k - 1 ≡ beside k = beside_odd k e in
        let b : (k - 1) % 2 ≡ 0 = omega arith in
        omega (arith, ap beside (sym a), beside_even (k - 1) b)

-- the parent of a child
pub parent_left : (d k : ℕ) → parent (index d (2 * k)) ≡ index (suc d) k
parent_left d k = let e : 2 * k / 2 ≡ k = omega arith in parent_index d (2 * k) ∙ ap (index (suc d)) e

pub parent_right_lem : (d k : ℕ) → parent (index d (2 * k + 1)) ≡ index (suc d) k
parent_right_lem d k = let e : (2 * k + 1) / 2 ≡ k = omega arith in parent_index d (2 * k + 1) ∙ ap (index (suc d)) e
