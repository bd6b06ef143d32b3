-- The way from a chunk up to the root above it, the siblings beside the way, and the other roots: where they stand. Assumes nothing.
use Prim.Native.Nat.{ℕ, suc, ◌/◌, ◌^◌, ◌≤◌, ◌<◌}
use mathlib.Core.Path.{◌≡◌, refl, sym, ap, ◌∙◌, subst}
use mathlib.Core.Bool.{Bool, true, false}
use mathlib.Core.List.{[]}
use native.Mathlib.Omega.{arith}
use borrow.Author.Tests.{leb-true, leb-false}
use lib.Dec.{leb}
use lib.ListN.{length, get_or}
use Rattle.byte_strings.proofs.Lists.{length_run}
use Rattle.byte_strings.proofs.Bools.{clash}
use Rattle.tree_index.specs.Tree.{index, depth, block, parent, filled, roots}
use Rattle.tree_index.proofs.Index.{depth_index, block_index}
use Rattle.packet.specs.Packet.{root_above, beside, siblings, other_roots, place_above}
use Rattle.packet.specs.Inner.{ChunkOf}
use Rattle.packet.proofs.Above.{place_root, place_below}
use Rattle.packet.proofs.Rows.{half, sibling_filled}
use Rattle.packet_compare.proofs.Stands.{stands, top_index}
use Rattle.byte_strings.proofs.Members.{In, place_in_lem}
use Rattle.theorem_taking_laws.proofs.Distinct.{without_in}
use Rattle.theorem_taking_laws.proofs.Siblings.{sibling, sibling_index, parent_index, beside_half, beside_other, beside_twice}
use Rattle.theorem_taking_laws.proofs.Roots.{root_hole}

-- the tree indexes of the way, and of the siblings beside it
abbrev pub way_index : ℕ → ℕ → ℕ
way_index c d = index d (c / 2 ^ d)

abbrev pub side_index : ℕ → ℕ → ℕ
side_index c d = index d (beside (c / 2 ^ d))

pub side_parent : (c d : ℕ) → parent (side_index c d) ≡ way_index c (suc d)
side_parent c d = parent_index d (beside (c / 2 ^ d)) ∙ ap (index (suc d)) (beside_half (c / 2 ^ d) ∙ half c d)

pub way_parent : (c d : ℕ) → parent (way_index c d) ≡ way_index c (suc d)
way_parent c d = parent_index d (c / 2 ^ d) ∙ ap (index (suc d)) (half c d)

pub way_sibling : (c d : ℕ) → sibling (way_index c d) ≡ side_index c d
way_sibling c d = sibling_index d (c / 2 ^ d)

pub side_sibling : (c d : ℕ) → sibling (side_index c d) ≡ way_index c d
side_sibling c d = sibling_index d (beside (c / 2 ^ d)) ∙ ap (index d) (beside_twice (c / 2 ^ d))

pub side_off : (c d e : ℕ) → side_index c d ≡ way_index c e → ⊥
side_off c d e h =
    let q : d ≡ e = sym (depth_index d (beside (c / 2 ^ d))) ∙ ap depth h ∙ depth_index e (c / 2 ^ e) in
    let b : beside (c / 2 ^ d) ≡ c / 2 ^ e = sym (block_index d (beside (c / 2 ^ d))) ∙ ap block h ∙ block_index e (c / 2 ^ e) in
    beside_other (c / 2 ^ d) (b ∙ ap (λ (x : ℕ). c / 2 ^ x) (sym q))

-- how many siblings there are
pub siblings_deep : (n c : ℕ) → length (siblings n c) ≡ depth (root_above (roots n) c)
unfolding siblings
siblings_deep n c = length_run _ 0 (depth (root_above (roots n) c))

module _ (n c : ℕ) (h : ChunkOf n c) where
  pub top_root : way_index c (length (siblings n c)) ≡ root_above (roots n) c
  top_root = ap (λ (x : ℕ). index x (c / 2 ^ x)) (siblings_deep n c) ∙ top_index n c h

  pub above_root : In (root_above (roots n) c) (roots n)
  above_root = subst (λ (x : ℕ). In x (roots n)) (sym (place_root (roots n) c)) (place_in_lem 0 (roots n) (place_above (roots n) c) (place_below n c h))

  pub way_filled : (d : ℕ) → d ≤ length (siblings n c) → filled n (way_index c d) ≡ true
  way_filled d l =
      let s = stands (λ x. x) [] n c in s.there h d (omega (arith, s.count))

  pub side_filled : (d : ℕ) → d < length (siblings n c) → filled n (side_index c d) ≡ true
  side_filled d l = sibling_filled n c d h (omega (arith, siblings_deep n c))

  pub other_root : (j : ℕ) → j < length (other_roots n c) → In (get_or (other_roots n c) j 0) (roots n) × (get_or (other_roots n c) j 0 ≡ root_above (roots n) c → ⊥)
  unfolding other_roots
  other_root j l = without_in (get_or (other_roots n c) j 0) (root_above (roots n) c) (roots n) (place_in_lem 0 (other_roots n c) j l)

  pub other_off : (j d : ℕ) → j < length (other_roots n c) → d ≤ length (siblings n c) → get_or (other_roots n c) j 0 ≡ way_index c d → ⊥
  other_off j d l m e = pick (leb (suc d) (length (siblings n c))) refl
    where
      pick : (b : Bool) → leb (suc d) (length (siblings n c)) ≡ b → ⊥
      pick true q =
          let g : suc d ≤ length (siblings n c) = leb-true (suc d) (length (siblings n c)) q in
          clash (filled n (way_index c (suc d))) (way_filled (suc d) g)
          (ap (filled n) (sym (way_parent c d) ∙ ap parent (sym e)) ∙ root_hole n (get_or (other_roots n c) j 0) (other_root j l).0)
      pick false q =
          let g : d ≡ length (siblings n c) = omega (arith, leb-false (suc d) (length (siblings n c)) q) in
          (other_root j l).1 (e ∙ ap (way_index c) g ∙ top_root)

  pub other_beside : (j d : ℕ) → j < length (other_roots n c) → d < length (siblings n c) → get_or (other_roots n c) j 0 ≡ side_index c d → ⊥
  other_beside j d l m e =
      clash (filled n (way_index c (suc d))) (way_filled (suc d) m)
      (ap (filled n) (sym (side_parent c d) ∙ ap parent (sym e)) ∙ root_hole n (get_or (other_roots n c) j 0) (other_root j l).0)
