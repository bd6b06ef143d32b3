-- A packet that is made from a register of a sequence brings the sequence's entries. Assumes nothing.
use Prim.Native.Nat.{ℕ, zero, suc, ◌+◌, ◌-◌, ◌*◌, ◌/◌, ◌^◌, ◌≤◌, ◌<◌}
use mathlib.Core.Path.{◌≡◌, refl, sym, ap, ap₂, ◌∙◌, subst}
use mathlib.Core.Bool.{Bool, true, false}
use mathlib.Core.Logic.{◌⊎◌, inl, inr}
use mathlib.Core.List.{List, []}
use native.Mathlib.Decide.{dec_lt}
use native.Mathlib.Nat.{zero-add}
use native.Mathlib.Omega.{arith}
use lib.ListN.{length, get_or}
use lib.Seq.{ext_get_or}
use borrow.Author.Tests.{lt-ltb}
use Rattle.answer_types.specs.Verdict.{done}
use Rattle.byte_strings.proofs.Lists.{get_or_run}
use Rattle.tree_index.specs.Tree.{depth, roots}
use Rattle.file_format.specs.Messages.{HashFunction}
use Rattle.file_format.specs.Entries.{Entry, hole, leaf, parent_of, node, node_at}
use Rattle.file_format.specs.Images.{leaves}
use Rattle.file_format.specs.Slots.{Slot, held, released, is_held, slot_bytes, slot_entry, all_held, contents, held_in, Within}
use Rattle.file_format.specs.Belongs.{Register, Belongs}
use Rattle.file_format.proofs.Slots.{slot_at, contents_at, held_at, leaves_length, leaf_at, all_length, all_contents, all_held_lem, held_slot}
use Rattle.file_format.proofs.Nodes.{node_at_index}
use Rattle.checks.specs.Checks.{judged, register_checks}
use Rattle.checks.proofs.Passed.{passes}
use Rattle.checks.proofs.Judged.{not_both_verdicts}
use Rattle.lookup.specs.Read.{chunk_bytes, read_verdict}
use Rattle.lookup.specs.Theorems.{Answers}
use Rattle.lookup.proofs.Answers.{answers}
use Rattle.lookup.proofs.Calls.{done_first, reading}
use Rattle.packet.specs.Packet.{root_above, beside, siblings, other_roots, packet_of, make_verdict}
use Rattle.packet.specs.Check.{others_place, entry_in, entries_in, other_entries, ordered}
use Rattle.packet.specs.Inner.{ChunkOf, Readable}
use Rattle.packet.proofs.Answers.{chunk_leaf, siblings_are, step_node, others_place_lem, other_node as node-other}
use Rattle.packet.proofs.Makes.{readable}
use Rattle.packet.proofs.Rows.{half}
use Rattle.copy_take_in.specs.TakeIn.{Given, brought}
use Rattle.byte_strings.proofs.Members.{In}
use Rattle.theorem_taking_laws.proofs.Brought.{way_entry, side_entry_lem, other_entry_lem, Brings, on_way, beside_way, other_root_lem, brings}
use Rattle.theorem_taking_laws.proofs.Made.{way_leaf, way_next}
use Rattle.theorem_taking_laws.proofs.Ways.{siblings_deep}
use Rattle.theorem_copies_whole.specs.Whole.{SlotsOf}

-- ---- a register of the sequence

module _ (F : List ℕ → List ℕ) (cs : List (List ℕ)) (ss : List Slot) (o : SlotsOf F cs ss) where
  pub same_leaves : leaves F ss ≡ leaves F (all_held cs)
  same_leaves =
      ext_get_or hole (leaves F ss) (leaves F (all_held cs)) (leaves_length F ss ∙ o.count ∙ sym (leaves_length F (all_held cs) ∙ all_length cs))
      (λ k l. let m : k < length cs = subst (λ (n : ℕ). k < n) (leaves_length F ss ∙ o.count) l in
      leaf_at F ss k (subst (λ (n : ℕ). k < n) (sym o.count) m) ∙ entry k m (o.each k m)
      ∙ sym (leaf_at F (all_held cs) k (subst (λ (n : ℕ). k < n) (sym (all_length cs)) m) ∙ ap (slot_entry F) (of_all k m)))
    where
      entry : (k : ℕ) → k < length cs → (slot_at ss k ≡ held (get_or cs k [])) ⊎ (slot_at ss k ≡ released (leaf F (get_or cs k []))) → slot_entry F (slot_at ss k) ≡ leaf F (get_or cs k [])
      entry k m (inl e) = ap (slot_entry F) e
      entry k m (inr e) = ap (slot_entry F) e

      of_all : (k : ℕ) → k < length cs → slot_at (all_held cs) k ≡ held (get_or cs k [])
      of_all k m =
          held_slot (all_held cs) k (subst (λ (n : ℕ). k < n) (sym (all_length cs)) m) (all_held_lem cs k ∙ lt-ltb k (length cs) m)
          ∙ ap (λ (l : List (List ℕ)). held (get_or l k [])) (all_contents cs)

  -- a chunk of it that is held is the sequence's
  pub held_chunk : (k : ℕ) → k < length cs → held_in ss k ≡ true → get_or (contents ss) k [] ≡ get_or cs k []
  held_chunk k m h = contents_at ss k ∙ pick (o.each k m)
    where
      pick : (slot_at ss k ≡ held (get_or cs k [])) ⊎ (slot_at ss k ≡ released (leaf F (get_or cs k []))) → slot_bytes (slot_at ss k) ≡ get_or cs k []
      pick (inl e) = ap slot_bytes e
      pick (inr e) =
          absurd
          (let f : is_held (slot_at ss k) ≡ true = sym (held_at ss k (subst (λ (n : ℕ). k < n) (sym o.count) m)) ∙ h in
          let g : false ≡ true = sym (ap is_held e) ∙ f in let z : ◌≡◌ {A = ℕ} 0 1 = cc in omega arith)

module _ (F : List ℕ → List ℕ) (hf : HashFunction F) (ss : List Slot) (w : Within ss) (r : Register) (b : Belongs F r ss) (c : ℕ) (out : List ℕ)
    (e : make_verdict F r c out ≡ done) where
  read_done_lem : read_verdict F r c ≡ done
  unfolding make_verdict
  read_done_lem = done_first (read_verdict F r c) _ e

  pub passed : judged (register_checks r) done ≡ done
  passed = passes r done (reading F r c read_done_lem).placing.passed

  told : Answers F r ss (contents ss)
  told = answers F hf ss w r b passed

  pub is_held_lem : held_in ss c ≡ true
  is_held_lem = go (held_in ss c) refl
    where
      go : (h : Bool) → held_in ss c ≡ h → held_in ss c ≡ true
      go true h = h
      go false h = elim (dec_lt c (length (contents ss))) [
        | yes l ↦ absurd (not_both_verdicts (read_verdict F r c) _ _ read_done_lem (told.not_held c l h))
        | no l ↦ absurd (not_both_verdicts (read_verdict F r c) _ _ read_done_lem (told.no_read c (omega arith)))
      ]

  read : Readable r.tree r.n c (chunk_bytes r c)
  read = readable F r c (sym read_done_lem) (chunk_bytes r c) refl

  pub chunk_of : ChunkOf r.n c
  chunk_of = read.chunk

  abbrev es : List Entry
  es = leaves F ss

  abbrev p : List ℕ
  p = packet_of r c

  abbrev up : ℕ
  up = depth (root_above (roots r.n) c)

  side_node : (d : ℕ) → d < length (siblings r.n c) → side_entry_lem p r.n c d ≡ node F es d (beside (c / 2 ^ d))
  side_node d l =
      ap (λ (l : List Entry). get_or l d hole) (siblings_are F hf ss w r b passed c is_held_lem)
      ∙ get_or_run (λ h. node F es h (beside (c / 2 ^ h))) 0 up d hole (subst (λ (m : ℕ). d < m) (siblings_deep r.n c) l)
      ∙ ap (λ (h : ℕ). node F es h (beside (c / 2 ^ h))) (zero-add d)

  way_node : (d : ℕ) → d ≤ length (siblings r.n c) → way_entry F p r.n c d ≡ node F es d (c / 2 ^ d)
  way_node zero l = way_leaf F p r.n c ∙ chunk_leaf F hf ss w r b passed c is_held_lem
  way_node (suc d) l =
      way_next F p r.n c d l
      ∙ ap₂ (ordered (c / 2 ^ d) (parent_of F)) (way_node d (omega arith)) (side_node d l)
      ∙ step_node F es d (c / 2 ^ d) ∙ ap (node F es (suc d)) (half c d)

  other_node : (j : ℕ) → j < length (other_roots r.n c) → other_entry_lem p r.n c j ≡ node_at F es (get_or (other_roots r.n c) j 0)
  unfolding other_entries entries_in
  other_node j l =
      get_or_run (λ h. entry_in p (others_place p r.n c + 1 + 40 * h)) 0 (length (other_roots r.n c)) j hole l
      ∙ ap₂ (λ (x y : ℕ). entry_in p (x + 40 * y)) (others_place_lem F hf ss w r b passed c is_held_lem) (zero-add j)
      ∙ node-other F hf ss w r b passed c is_held_lem j l

  -- what the packet brings are the nodes of the register's chunks
  pub brings_nodes : (g : Given) → In g (brought F p r.n c) → g.entry ≡ node_at F (leaves F ss) g.at
  brings_nodes g i = pick (brings F p r.n c g i)
    where
      pick : Brings F p r.n c g → g.entry ≡ node_at F es g.at
      pick (on_way d l a f) = f ∙ way_node d l ∙ sym (ap (node_at F es) a ∙ node_at_index F es d (c / 2 ^ d))
      pick (beside_way d l a f) = f ∙ side_node d l ∙ sym (ap (node_at F es) a ∙ node_at_index F es d (beside (c / 2 ^ d)))
      pick (other_root_lem j l a f) = f ∙ other_node j l ∙ sym (ap (node_at F es) a)
