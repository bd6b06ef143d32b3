-- What the entries of the way are made of. Assumes nothing.
use Prim.Native.Nat.{ℕ, zero, suc, ◌+◌, ◌*◌, ◌/◌, ◌%◌, ◌^◌, ◌<◌}
use mathlib.Core.Path.{◌≡◌, refl, ap, ap₂, ◌∙◌, subst}
use mathlib.Core.Logic.{◌⊎◌, inl, inr}
use mathlib.Core.List.{List, [], ◌∷◌}
use native.Mathlib.Nat.{zero-add, not-suc-le-zero, le_of_suc-le-suc}
use native.Mathlib.Omega.{arith}
use lib.ListN.{length, get_or}
use Rattle.tree_index.specs.Tree.{index}
use Rattle.tree_index.proofs.Roots.{bit}
use Rattle.file_format.specs.Entries.{Entry, hole, leaf, parent_of}
use Rattle.packet.specs.Packet.{beside, siblings}
use Rattle.packet.specs.Check.{packet_chunk, ordered, sibling_entries, Step, steps_above, steps}
use Rattle.packet.proofs.Climb.{left_first, right_first}
use Rattle.packet.proofs.Rows.{beside_even, beside_odd, half, siblings_count}
use Rattle.packet_compare.specs.Theorems.{step_at}
use Rattle.packet_compare.proofs.Stands.{rest_is, from_chunk, under, under_shift, under_step}
use Rattle.copy_take_in.specs.TakeIn.{brought}
use Rattle.byte_strings.proofs.Members.{In}
use Rattle.theorem_taking_laws.proofs.Ways.{way_index, side_index}
use Rattle.theorem_taking_laws.proofs.Brought.{way_entry, side_entry_lem, way_brought, side_brought}

module _ (F : List ℕ → List ℕ) (c : ℕ) where
  above_entry : (d : ℕ) (e : Entry) (ss : List Entry) (j : ℕ) → j < length ss
      → (step_at (steps_above F d (c / 2 ^ d) e ss) j).entry ≡ ordered (c / 2 ^ (d + j)) (parent_of F) (under F c d e ss j) (get_or ss j hole)
  unfolding steps_above
  above_entry d e [] j l = absurd (not-suc-le-zero l)
  above_entry d e (s ∷ ss) zero l =
      let q : d ≡ d + 0 = omega arith in ap (λ (x : ℕ). ordered (c / 2 ^ x) (parent_of F) e s) q
  above_entry d e (s ∷ ss) (suc j) l =
      let a : Entry = ordered (c / 2 ^ d) (parent_of F) e s in
      let q : suc d + j ≡ d + suc j = omega arith in
      ap (λ (xs : List Step). (step_at xs j).entry) (rest_is F c d a ss) ∙ above_entry (suc d) a ss j (le_of_suc-le-suc l)
      ∙ ap₂ (λ (x : ℕ) (y : Entry). ordered (c / 2 ^ x) (parent_of F) y (get_or ss j hole)) q (under_shift F c d e s ss j)

module _ (F : List ℕ → List ℕ) (p : List ℕ) (n c : ℕ) where
  pub way_leaf : way_entry F p n c 0 ≡ leaf F (packet_chunk p)
  unfolding steps
  way_leaf = refl

  pub way_next : (d : ℕ) → d < length (siblings n c)
      → way_entry F p n c (suc d) ≡ ordered (c / 2 ^ d) (parent_of F) (way_entry F p n c d) (side_entry_lem p n c d)
  unfolding steps
  way_next d l =
      ap (λ (xs : List Step). (step_at xs d).entry) (from_chunk F p n c)
      ∙ above_entry F c 0 (leaf F (packet_chunk p)) (sibling_entries p n c) d (omega (arith, siblings_count p n c))
      ∙ ap₂ (λ (x : ℕ) (y : Entry). ordered (c / 2 ^ x) (parent_of F) y (side_entry_lem p n c d)) (zero-add d) (under_step F p n c d)

  -- the entries brought at the children of a parent on the way, of which it is made
  pub record Made (d : ℕ) : Type 0 where
    pub left : Entry
    pub right : Entry
    pub left_in_lem : In (record { at = index d (2 * (c / 2 ^ suc d)); entry = left }) (brought F p n c)
    pub right_in : In (record { at = index d (2 * (c / 2 ^ suc d) + 1); entry = right }) (brought F p n c)
    pub same : way_entry F p n c (suc d) ≡ parent_of F left right

  pub made : (d : ℕ) → d < length (siblings n c) → Made d
  made d l = pick (bit (c / 2 ^ d))
    where
      way : In (record { at = way_index c d; entry = way_entry F p n c d }) (brought F p n c)
      way = way_brought F p n c d (omega arith)

      side : In (record { at = side_index c d; entry = side_entry_lem p n c d }) (brought F p n c)
      side = side_brought F p n c d l

      pick : (c / 2 ^ d % 2 ≡ 0) ⊎ (c / 2 ^ d % 2 ≡ 1) → Made d
      pick (inl z) =
          let h : c / 2 ^ d / 2 ≡ c / 2 ^ suc d = half c d in
          let a : c / 2 ^ d ≡ 2 * (c / 2 ^ suc d) = omega arith in
          let b : beside (c / 2 ^ d) ≡ 2 * (c / 2 ^ suc d) + 1 = omega (arith, beside_even (c / 2 ^ d) z) in
          record {
            left = way_entry F p n c d;
            right = side_entry_lem p n c d;
            left_in_lem = subst (λ (x : ℕ). In (record { at = index d x; entry = way_entry F p n c d }) (brought F p n c)) a way;
            right_in = subst (λ (x : ℕ). In (record { at = index d x; entry = side_entry_lem p n c d }) (brought F p n c)) b side;
            same = way_next d l ∙ left_first F (c / 2 ^ d) (way_entry F p n c d) (side_entry_lem p n c d) z;
          }
      pick (inr z) =
          let h : c / 2 ^ d / 2 ≡ c / 2 ^ suc d = half c d in
          let a : c / 2 ^ d ≡ 2 * (c / 2 ^ suc d) + 1 = omega arith in
          let b : beside (c / 2 ^ d) ≡ 2 * (c / 2 ^ suc d) = omega (arith, beside_odd (c / 2 ^ d) z) in
          record {
            left = side_entry_lem p n c d;
            right = way_entry F p n c d;
            left_in_lem = subst (λ (x : ℕ). In (record { at = index d x; entry = side_entry_lem p n c d }) (brought F p n c)) b side;
            right_in = subst (λ (x : ℕ). In (record { at = index d x; entry = way_entry F p n c d }) (brought F p n c)) a way;
            same = way_next d l ∙ right_first F (c / 2 ^ d) (way_entry F p n c d) (side_entry_lem p n c d) z;
          }
