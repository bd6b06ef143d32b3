-- The new entries that an append makes are the nodes of the chunk sequence with the chunk at its end.
-- Assumes nothing.
use Prim.Native.Nat.{ℕ, zero, suc, ◌+◌, ◌-◌, ◌*◌, ◌/◌, ◌^◌, ◌≤◌, ◌<◌}
use mathlib.Core.Path.{◌≡◌, sym, ap, ap₂, ◌∙◌, subst}
use mathlib.Core.Bool.{true}
use mathlib.Core.List.{List, [], ◌∷◌, ◌++◌, map, map-append}
use native.Mathlib.Nat.{mul-one, mul_assoc, add-zero, div-eq_of_eq-mul_left, div-one}
use native.Mathlib.Numerals.{add-one}
use native.Mathlib.Omega.{arith}
use lib.ListN.{length, get_or, get_or-append}
use lib.Pow.{pow_pos}
use Rattle.byte_strings.specs.Lists.{run}
use Rattle.byte_strings.proofs.Lists.{get_or_behind}
use Rattle.tree_index.specs.Tree.{index, filled, completed, filled_by}
use Rattle.tree_index.proofs.Index.{by_coordinates, pow_twice}
use Rattle.tree_index.proofs.Filled.{block_end, filled_end, end_filled, filled_left, filled_right}
use Rattle.tree_index.proofs.Appended.{completed_end, newly_filled_lem}
use Rattle.file_format.specs.Messages.{HashFunction}
use Rattle.file_format.specs.Entries.{Entry, hole, leaf, parent_of, node, node_at, entry_at}
use Rattle.file_format.specs.Images.{leaves}
use Rattle.file_format.specs.Slots.{Slot, held, slot_entry, Within}
use Rattle.file_format.specs.Belongs.{Register, Belongs}
use Rattle.file_format.proofs.Slots.{leaves_length}
use Rattle.file_format.proofs.Nodes.{node_at_index, entry_at_filled}
use Rattle.file_format.proofs.OfImage.{stored_node_hash, stored_node_size}
use Rattle.writing.specs.Append.{stored_entry, sibling, climb, new_entries}
use Rattle.writing.proofs.Written.{length_snoc}

-- the block that the chunk n completes at the depth d is the right one of two, where it completes one at the depth above too
halves : (n d : ℕ) → n + 1 < 2 ^ 64 → suc d ≤ completed n → (n + 1) / 2 ^ d ≡ 2 * ((n + 1) / 2 ^ suc d - 1 + 1)
halves n d l h =
    let p : ℕ = (n + 1) / 2 ^ suc d - 1 in
    div-eq_of_eq-mul_left (pow_pos d) (sym (mul_assoc 2 (p + 1) (2 ^ d) ∙ sym (pow_twice (p + 1) d) ∙ completed_end n (suc d) l h))

module _ (F : List ℕ → List ℕ) where
  -- ---- a leaf more

  pub leaves_snoc : (ss : List Slot) (c : List ℕ) → leaves F (ss ++ (held c ∷ [])) ≡ leaves F ss ++ (leaf F c ∷ [])
  unfolding leaves
  leaves_snoc ss c = map-append (slot_entry F) ss (held c ∷ [])

  -- a node does not change where its block was there
  pub node_snoc : (es : List Entry) (e : Entry) (d k : ℕ) → (k + 1) * 2 ^ d ≤ length es → node F (es ++ (e ∷ [])) d k ≡ node F es d k
  unfolding node
  node_snoc es e zero k h = get_or-append es (e ∷ []) hole k (omega (arith, mul-one (k + 1)))
  node_snoc es e (suc d) k h =
      let f : filled (length es) (index (suc d) k) ≡ true = end_filled (length es) (suc d) k h in
      ap₂ (parent_of F) (node_snoc es e d (2 * k) (filled_end (length es) d (2 * k) (filled_left (length es) d k f)))
      (node_snoc es e d (2 * k + 1) (filled_end (length es) d (2 * k + 1) (filled_right (length es) d k f)))

  pub node_at_snoc : (ss : List Slot) (c : List ℕ) (i : ℕ) → filled (length ss) i ≡ true
      → node_at F (leaves F (ss ++ (held c ∷ []))) i ≡ node_at F (leaves F ss) i
  node_at_snoc ss c =
      by_coordinates (λ i. filled (length ss) i ≡ true → node_at F (leaves F (ss ++ (held c ∷ []))) i ≡ node_at F (leaves F ss) i)
      (λ d k h. node_at_index F (leaves F (ss ++ (held c ∷ []))) d k ∙ ap (λ (es : List Entry). node F es d k) (leaves_snoc ss c)
      ∙ node_snoc (leaves F ss) (leaf F c) d k (subst (λ (m : ℕ). (k + 1) * 2 ^ d ≤ m) (sym (leaves_length F ss)) (filled_end (length ss) d k h))
      ∙ sym (node_at_index F (leaves F ss) d k))

  -- the new leaf
  pub node_last : (ss : List Slot) (c : List ℕ) → node F (leaves F (ss ++ (held c ∷ []))) zero (length ss) ≡ leaf F c
  unfolding node
  node_last ss c =
      ap (λ (es : List Entry). get_or es (length ss) hole) (leaves_snoc ss c)
      ∙ ap (λ (k : ℕ). get_or (leaves F ss ++ (leaf F c ∷ [])) k hole) (sym (add-zero (length ss)))
      ∙ get_or_behind (leaves F ss) (leaf F c ∷ []) (length ss) 0 hole (leaves_length F ss)

  module _ (hf : HashFunction F) (ss : List Slot) (w : Within ss) (r : Register) (b : Belongs F r ss) (c : List ℕ) (small : r.n + 1 < 2 ^ 64) where
    -- the sequence with the chunk at its end, and where its new nodes stand
    longer : List Slot
    longer = ss ++ (held c ∷ [])

    place : ℕ → ℕ
    place d = index d ((r.n + 1) / 2 ^ d - 1)

    -- a stored node that was filled
    stored_known_lem : (d k : ℕ) → (k + 1) * 2 ^ d ≤ r.n → stored_entry r.tree (index d k) ≡ node F (leaves F longer) d k
    unfolding stored_entry longer
    stored_known_lem d k h =
        let f : filled r.n (index d k) ≡ true = end_filled r.n d k h in
        let e : node_at F (leaves F ss) (index d k) ≡ node F (leaves F (ss ++ (held c ∷ []))) d k =
        sym (node_at_snoc ss c (index d k) (ap (λ (m : ℕ). filled m (index d k)) (sym b.count) ∙ f)) ∙ node_at_index F (leaves F (ss ++ (held c ∷ []))) d k
        in
        ap₂ (λ (x : List ℕ) (z : ℕ). record { hash = x; size = z }) (stored_node_hash F hf ss w r b (index d k) f) (stored_node_size F hf ss w r b (index d k) f) ∙ e

    -- the new node above
    above : (d : ℕ) → suc d ≤ completed r.n
        → parent_of F (stored_entry r.tree (sibling r.n d)) (node F (leaves F longer) d ((r.n + 1) / 2 ^ d - 1))
        ≡ node F (leaves F longer) (suc d) ((r.n + 1) / 2 ^ suc d - 1)
    unfolding sibling node
    above d h =
        let p : ℕ = (r.n + 1) / 2 ^ suc d - 1 in
        let e : (r.n + 1) / 2 ^ d ≡ 2 * (p + 1) = halves r.n d small h in
        let left : (r.n + 1) / 2 ^ d - 2 ≡ 2 * p = omega arith in
        let right : (r.n + 1) / 2 ^ d - 1 ≡ 2 * p + 1 = omega arith in
        let ends : (2 * p + 1 + 1) * 2 ^ d ≡ r.n + 1 = ap (λ (x : ℕ). x * 2 ^ d) (omega arith) ∙ completed_end r.n d small (omega arith) in
        ap₂ (parent_of F)
        (ap (λ (x : ℕ). stored_entry r.tree (index d x)) left ∙ stored_known_lem d (2 * p) (omega (arith, ends, block_end d (2 * p + 1), pow_pos d)))
        (ap (node F (leaves F longer) d) right)

    -- the node at a new place is the entry there
    placed : (d : ℕ) → d ≤ completed r.n → node F (leaves F longer) d ((r.n + 1) / 2 ^ d - 1) ≡ entry_at F (leaves F longer) (place d)
    unfolding longer place
    placed d h =
        let i : ℕ = index d ((r.n + 1) / 2 ^ d - 1) in
        sym (node_at_index F (leaves F (ss ++ (held c ∷ []))) d ((r.n + 1) / 2 ^ d - 1))
        ∙ sym (entry_at_filled F (leaves F (ss ++ (held c ∷ []))) i
        (ap (λ (m : ℕ). filled m i) (leaves_length F (ss ++ (held c ∷ [])) ∙ length_snoc ss (held c) ∙ ap (λ (m : ℕ). m + 1) (sym b.count))
        ∙ newly_filled_lem r.n d small h))

    climb_nodes : (k d : ℕ) (e : Entry) → d + k ≤ completed r.n → e ≡ node F (leaves F longer) d ((r.n + 1) / 2 ^ d - 1)
        → climb F r.tree r.n d k e ≡ map (entry_at F (leaves F longer)) (run place d (suc k))
    unfolding climb run
    climb_nodes zero d e h q = ap (λ (x : Entry). x ∷ []) (q ∙ placed d (omega arith))
    climb_nodes (suc k) d e h q =
        ap₂ (λ (x : Entry) (l : List Entry). x ∷ l) (q ∙ placed d (omega arith))
        (ap (λ (m : ℕ). climb F r.tree r.n m k (parent_of F (stored_entry r.tree (sibling r.n d)) e)) (add-one d)
        ∙ climb_nodes k (suc d) (parent_of F (stored_entry r.tree (sibling r.n d)) e) (omega arith)
        (ap (parent_of F (stored_entry r.tree (sibling r.n d))) q ∙ above d (omega arith)))

    pub new_entries_lem : new_entries F r.tree r.n c ≡ map (entry_at F (leaves F (ss ++ (held c ∷ [])))) (filled_by r.n)
    unfolding new_entries filled_by longer place
    new_entries_lem =
        let one : (r.n + 1) / 2 ^ 0 ≡ r.n + 1 = div-one (r.n + 1) in
        let last : (r.n + 1) / 2 ^ 0 - 1 ≡ length ss = omega (arith, b.count) in
        climb_nodes (completed r.n) 0 (leaf F c) (omega arith)
        (sym (ap (node F (leaves F (ss ++ (held c ∷ []))) zero) last ∙ node_last ss c))
        ∙ ap (λ (m : ℕ). map (entry_at F (leaves F (ss ++ (held c ∷ [])))) (run (λ d. index d ((r.n + 1) / 2 ^ d - 1)) 0 m)) (sym (add-one (completed r.n)))
