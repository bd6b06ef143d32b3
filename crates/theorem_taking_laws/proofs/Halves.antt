-- Which child a descent to a chunk goes to. Assumes nothing.
use Prim.Native.Nat.{ℕ, suc, ◌+◌, ◌*◌, ◌/◌, ◌%◌, ◌^◌, ◌≤◌, ◌<◌}
use mathlib.Core.Path.{◌≡◌, refl, sym, ap, ◌∙◌, subst}
use mathlib.Core.Bool.{true, false}
use mathlib.Core.Logic.{◌⊎◌, inl, inr}
use native.Mathlib.Nat.{div-mul-le_self, lt-div-mul-add}
use native.Mathlib.Omega.{arith}
use borrow.Author.Tests.{lt-ltb, le-ltb}
use lib.Dec.{ltb}
use lib.Pow.{pow_pos}
use Rattle.tree_index.specs.Tree.{index}
use Rattle.tree_index.proofs.Filled.{block_end}
use Rattle.tree_index.proofs.Roots.{bit}
use Rattle.lookup.specs.Descent.{chunk_within}
use Rattle.packet.specs.Packet.{beside}
use Rattle.packet.proofs.Rows.{beside_even, beside_odd, half}
use Rattle.theorem_taking_laws.proofs.Ways.{way_index, side_index}

module _ (c : ℕ) where
  -- the halves of the block of 2^(d + 1) chunks around chunk c
  pub data Half (d k : ℕ) : Type 0 where
    in_left_lem : c / 2 ^ d ≡ 2 * k → index d (2 * k) ≡ way_index c d → index d (2 * k + 1) ≡ side_index c d → c < (2 * k + 1) * 2 ^ d → Half d k
    in_right_lem : c / 2 ^ d ≡ 2 * k + 1 → index d (2 * k) ≡ side_index c d → index d (2 * k + 1) ≡ way_index c d → (2 * k + 1) * 2 ^ d ≤ c → Half d k

  below_end : (d : ℕ) → c < (c / 2 ^ d + 1) * 2 ^ d
  below_end d = subst (λ (x : ℕ). c < x) (sym (block_end d (c / 2 ^ d))) (lt-div-mul-add (pow_pos d))

  pub halves : (d k : ℕ) → k ≡ c / 2 ^ suc d → Half d k
  halves d k e = pick (bit (c / 2 ^ d))
    where
      h : c / 2 ^ d / 2 ≡ k
      h = half c d ∙ sym e

      pick : (c / 2 ^ d % 2 ≡ 0) ⊎ (c / 2 ^ d % 2 ≡ 1) → Half d k
      pick (inl z) =
          let q : c / 2 ^ d ≡ 2 * k = omega (arith, h) in
          let b : 2 * k + 1 ≡ beside (c / 2 ^ d) = omega (arith, beside_even (c / 2 ^ d) z) in
          in_left_lem q (ap (index d) (sym q)) (ap (index d) b) (subst (λ (x : ℕ). c < (x + 1) * 2 ^ d) q (below_end d))
      pick (inr z) =
          let q : c / 2 ^ d ≡ 2 * k + 1 = omega (arith, h) in
          let b : 2 * k ≡ beside (c / 2 ^ d) = omega (arith, h, beside_odd (c / 2 ^ d) z) in
          in_right_lem q (ap (index d) b) (ap (index d) (sym q)) (subst (λ (x : ℕ). x * 2 ^ d ≤ c) q (div-mul-le_self c (2 ^ d)))

  pub goes_left : (d k s z : ℕ) → c < (k + 1) * 2 ^ d → chunk_within c d k s z ≡ true
  unfolding chunk_within
  goes_left d k s z h = lt-ltb c ((k + 1) * 2 ^ d) h

  pub goes_right : (d k s z : ℕ) → (k + 1) * 2 ^ d ≤ c → chunk_within c d k s z ≡ false
  unfolding chunk_within
  goes_right d k s z h = le-ltb c ((k + 1) * 2 ^ d) h

pub within_is : (c d k s z : ℕ) → chunk_within c d k s z ≡ ltb c ((k + 1) * 2 ^ d)
unfolding chunk_within
within_is c d k s z = refl
