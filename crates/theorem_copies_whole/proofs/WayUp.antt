-- The filled blocks above a chunk. Assumes nothing.
use Prim.Native.Nat.{ℕ, zero, suc, ◌+◌, ◌-◌, ◌*◌, ◌/◌, ◌%◌, ◌^◌, ◌≤◌, ◌<◌}
use mathlib.Core.Path.{◌≡◌, refl, sym, ap, ◌∙◌, subst}
use mathlib.Core.Bool.{Bool, true, false}
use mathlib.Core.Logic.{◌⊎◌, inl, inr}
use native.Mathlib.Nat.{add-zero}
use native.Mathlib.Omega.{arith}
use lib.Dec.{ltb}
use lib.ListN.{length}
use borrow.Author.Tests.{ltb-true, ltb-false}
use Rattle.tree_index.specs.Tree.{index, filled, roots}
use Rattle.tree_index.proofs.Filled.{filled_left, filled_right}
use Rattle.tree_index.proofs.Roots.{bit}
use Rattle.packet.specs.Packet.{siblings}
use Rattle.packet.specs.Inner.{ChunkOf}
use Rattle.packet.proofs.Rows.{half}
use Rattle.byte_strings.proofs.Members.{In}
use Rattle.theorem_taking_laws.proofs.Ways.{way_index, way_parent, top_root, above_root}
use Rattle.theorem_taking_laws.proofs.Roots.{root_hole}
use Rattle.byte_strings.proofs.Bools.{clash}

-- a filled block above a chunk has filled ones below it
way_down : (n c d : ℕ) → filled n (way_index c (suc d)) ≡ true → filled n (way_index c d) ≡ true
way_down n c d f = pick (bit (c / 2 ^ d))
  where
    pick : (c / 2 ^ d % 2 ≡ 0) ⊎ (c / 2 ^ d % 2 ≡ 1) → filled n (index d (c / 2 ^ d)) ≡ true
    pick (inl z) =
        let a : 2 * (c / 2 ^ suc d) ≡ c / 2 ^ d = omega (arith, half c d) in
        subst (λ (k : ℕ). filled n (index d k) ≡ true) a (filled_left n d (c / 2 ^ suc d) f)
    pick (inr z) =
        let a : 2 * (c / 2 ^ suc d) + 1 ≡ c / 2 ^ d = omega (arith, half c d) in
        subst (λ (k : ℕ). filled n (index d k) ≡ true) a (filled_right n d (c / 2 ^ suc d) f)

way_lower : (n c d m : ℕ) → filled n (way_index c (d + m)) ≡ true → filled n (way_index c d) ≡ true
way_lower n c d zero f = subst (λ (x : ℕ). filled n (way_index c x) ≡ true) (add-zero d) f
way_lower n c d (suc m) f =
    let e : d + suc m ≡ suc (d + m) = omega arith in
    way_lower n c d m (way_down n c (d + m) (subst (λ (x : ℕ). filled n (way_index c x) ≡ true) e f))

-- none stands above its root
pub way_up_to : (n c : ℕ) → ChunkOf n c → (d : ℕ) → filled n (way_index c d) ≡ true → d ≤ length (siblings n c)
way_up_to n c h d f = pick (ltb (length (siblings n c)) d) refl
  where
    pick : (b : Bool) → ltb (length (siblings n c)) d ≡ b → d ≤ length (siblings n c)
    pick false e = ltb-false (length (siblings n c)) d e
    pick true e =
        let g : length (siblings n c) < d = ltb-true (length (siblings n c)) d e in
        let m : suc (length (siblings n c)) + (d - suc (length (siblings n c))) ≡ d = omega arith in
        clash (filled n (way_index c (suc (length (siblings n c)))))
        (way_lower n c (suc (length (siblings n c))) (d - suc (length (siblings n c))) (subst (λ (x : ℕ). filled n (way_index c x) ≡ true) (sym m) f))
        (ap (filled n) (sym (way_parent c (length (siblings n c)))) ∙ root_hole n (way_index c (length (siblings n c)))
        (subst (λ (x : ℕ). In x (roots n)) (sym (top_root n c h)) (above_root n c h)))
