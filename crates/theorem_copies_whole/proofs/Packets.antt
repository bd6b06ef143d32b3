-- A packet that is made from a register of a sequence, among the chunks of the sequence. Assumes nothing.
use Prim.Native.Nat.{ℕ, ◌≤◌, ◌<◌}
use mathlib.Core.Path.{◌≡◌, sym, ap, ◌∙◌, subst}
use mathlib.Core.Bool.{true}
use mathlib.Core.List.{List, []}
use lib.ListN.{length, get_or}
use Rattle.answer_types.specs.Verdict.{done}
use Rattle.tree_index.specs.Tree.{filled}
use Rattle.file_format.specs.Sizes.{longest_chunk}
use Rattle.file_format.specs.Messages.{HashFunction}
use Rattle.file_format.specs.Entries.{Entry, node_at, root_message_of}
use Rattle.file_format.specs.Images.{leaves, root_message_for, root_hash_for}
use Rattle.file_format.specs.Slots.{all_held, Within}
use Rattle.file_format.proofs.Spans.{span}
use Rattle.file_format.proofs.Slots.{all_contents}
use Rattle.file_format.proofs.OfImage.{stored_node_hash, stored_node_size}
use Rattle.lookup.specs.Descent.{chunk_within, descent, always}
use Rattle.lookup.proofs.Lookups.{one_start}
use Rattle.packet.specs.Packet.{packet_of}
use Rattle.packet.specs.Check.{packet_chunk, packet_verdict}
use Rattle.packet.specs.Inner.{ChunkOf}
use Rattle.packet.proofs.Answers.{chunk_is, passes}
use Rattle.copy_take_in.specs.TakeIn.{Given, packet_start, brought}
use Rattle.byte_strings.proofs.Members.{In}
use Rattle.theorem_taking_laws.proofs.Among.{brought_filled}
use Rattle.theorem_taking_laws.proofs.Starts.{HoldsAll, packet_descent}
use Rattle.theorem_copies_whole.specs.Whole.{MadeFrom}
use Rattle.theorem_copies_whole.proofs.Nodes.{same_leaves, held_chunk, passed, is_held_lem, chunk_of, brings_nodes}
use Rattle.theorem_copies_whole.proofs.Full.{full, full_belongs, full_count, full_descent}

module _ (F : List ℕ → List ℕ) (hf : HashFunction F) (cs : List (List ℕ)) (w : Within (all_held cs)) where
  abbrev es : List Entry
  es = leaves F (all_held cs)

  -- a packet that is made from a register of the sequence
  module _ (n : ℕ) (count : n ≡ length cs) (p : List ℕ) (i : ℕ) (m : MadeFrom F cs p i) where
    pub own_n : m.register.n ≡ n
    own_n = m.belongs.count ∙ m.sequence.count ∙ sym count

    pub nodes : (g : Given) → In g (brought F p n i) → g.entry ≡ node_at F es g.at
    nodes g l =
        brings_nodes F hf m.slots m.within m.register m.belongs i m.out m.made g
        (subst (λ (x : ℕ). In g (brought F (packet_of m.register i) x i)) (sym own_n) (subst (λ (x : List ℕ). In g (brought F x n i)) m.packet l))
        ∙ ap (λ (x : List Entry). node_at F x g.at) (same_leaves F cs m.slots m.sequence)

    pub piece : i < n → packet_chunk p ≡ get_or cs i []
    piece l =
        let e = is_held_lem F hf m.slots m.within m.register m.belongs i m.out m.made in
        ap packet_chunk m.packet
        ∙ chunk_is F hf m.slots m.within m.register m.belongs (passed F hf m.slots m.within m.register m.belongs i m.out m.made) i e
        ∙ held_chunk F cs m.slots m.sequence i (subst (λ (x : ℕ). i < x) count l) e

    -- the whole register of the sequence holds all that it brings
    pub holds_all : ChunkOf n i → HoldsAll (full F hf cs w).tree (brought F p n i)
    holds_all h g l =
        let f : filled (full F hf cs w).n g.at ≡ true = ap (λ (x : ℕ). filled x g.at) (full_count F hf cs w ∙ sym count) ∙ brought_filled n i h F p g l in
        record {
          hash = stored_node_hash F hf (all_held cs) w (full F hf cs w) (full_belongs F hf cs w) g.at f ∙ ap (λ (e : Entry). e.hash) (sym (nodes g l));
          size = stored_node_size F hf (all_held cs) w (full F hf cs w) (full_belongs F hf cs w) g.at f ∙ ap (λ (e : Entry). e.size) (sym (nodes g l));
        }

    pub start : ChunkOf n i → packet_start p n i ≡ span cs 0 i
    start h =
        one_start
        (sym (packet_descent F p n i h (full F hf cs w).tree (holds_all h)
        (subst (λ (x : List ℕ). length x ≤ longest_chunk) (sym (piece h.below ∙ ap (λ (l : List (List ℕ)). get_or l i []) (sym (all_contents cs)))) (w.short i)))
        ∙ ap (descent always (chunk_within i) (full F hf cs w).tree) (count ∙ sym (full_count F hf cs w))
        ∙ full_descent F hf cs w i (subst (λ (x : ℕ). i < x) (count ∙ sym (full_count F hf cs w)) h.below))

    -- it is the packet of one of the chunks, and passes the check under their root hash
    pub own_chunk : ChunkOf n i
    own_chunk =
        subst (λ (x : ℕ). ChunkOf x i) own_n (chunk_of F hf m.slots m.within m.register m.belongs i m.out m.made)

    one_root : root_hash_for F m.slots ≡ root_hash_for F (all_held cs)
    unfolding root_hash_for root_message_for
    one_root = ap (λ (x : List Entry). F (root_message_of F x)) (same_leaves F cs m.slots m.sequence)

    pub checked : packet_verdict F p n i (root_hash_for F (all_held cs)) ≡ done
    checked =
        let e = passed F hf m.slots m.within m.register m.belongs i m.out m.made in
        let h = is_held_lem F hf m.slots m.within m.register m.belongs i m.out m.made in
        subst (λ (x : List ℕ). packet_verdict F x n i (root_hash_for F (all_held cs)) ≡ done) (sym m.packet)
        (subst (λ (x : ℕ). packet_verdict F (packet_of m.register i) x i (root_hash_for F (all_held cs)) ≡ done) own_n
        (subst (λ (x : List ℕ). packet_verdict F (packet_of m.register i) m.register.n i x ≡ done) one_root
        (sym (passes F hf m.slots m.within m.register m.belongs e i h))))
