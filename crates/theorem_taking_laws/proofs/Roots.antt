-- Roots are filled, and no parent of a root is. Assumes nothing.
use Prim.Native.Nat.{ℕ, suc, ◌+◌, ◌-◌, ◌*◌, ◌/◌, ◌%◌, ◌^◌, ◌<◌}
use mathlib.Core.Path.{◌≡◌, refl, sym, ap, ◌∙◌, subst}
use mathlib.Core.Bool.{true, false}
use native.Mathlib.Nat.{mul_assoc, lt-div-mul-add}
use native.Mathlib.Omega.{arith}
use lib.Pow.{pow_pos}
use Rattle.tree_index.specs.Tree.{index, parent, filled, roots}
use Rattle.tree_index.proofs.Index.{pow_twice}
use Rattle.tree_index.proofs.Filled.{block_end, end_hole}
use Rattle.tree_index.proofs.Roots.{root_filled, root_at}
use Rattle.byte_strings.proofs.Members.{In, in_place}
use Rattle.theorem_taking_laws.proofs.Siblings.{parent_index}

pub in_roots_filled : (n i : ℕ) → In i (roots n) → filled n i ≡ true
in_roots_filled n i h = let q = in_place 0 i (roots n) h in subst (λ (x : ℕ). filled n x ≡ true) q.2 (root_filled n q.0 q.1)

past : (n d : ℕ) → n < (n / 2 ^ d + 1) * 2 ^ d
past n d = subst (λ (x : ℕ). n < x) (sym (block_end d (n / 2 ^ d))) (lt-div-mul-add (pow_pos d))

-- the block of a root's parent goes past the last chunk
pub root_hole : (n i : ℕ) → In i (roots n) → filled n (parent i) ≡ false
root_hole n i h =
    let q = in_place 0 i (roots n) h in
    let r = root_at n q.0 q.1 in
    subst (λ (x : ℕ). filled n (parent x) ≡ false) (sym r.3 ∙ q.2) (over r.0 (n / 2 ^ r.0) refl r.2)
  where
    over : (d k : ℕ) → k ≡ n / 2 ^ d → k % 2 ≡ 1 → filled n (parent (index d (k - 1))) ≡ false
    over d k e o =
        let a : (k - 1) / 2 + 1 ≡ (k + 1) / 2 = omega arith in
        let b : 2 * ((k - 1) / 2 + 1) ≡ k + 1 = omega arith in
        let s : ((k - 1) / 2 + 1) * 2 ^ suc d ≡ (k + 1) * 2 ^ d =
        pow_twice ((k - 1) / 2 + 1) d ∙ sym (mul_assoc 2 ((k - 1) / 2 + 1) (2 ^ d)) ∙ ap (λ (x : ℕ). x * 2 ^ d) b in
        ap (filled n) (parent_index d (k - 1))
        ∙ end_hole n (suc d) ((k - 1) / 2) (subst (λ (x : ℕ). n < x) (sym s) (subst (λ (x : ℕ). n < (x + 1) * 2 ^ d) (sym e) (past n d)))
