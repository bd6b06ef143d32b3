-- The packet that is made of a chunk brings what the tree file has, where the entries on the way to the chunk are right. Assumes nothing.
use Prim.Native.Nat.{ℕ, zero, suc, ◌+◌, ◌*◌, ◌/◌, ◌%◌, ◌^◌, ◌≤◌, ◌<◌}
use mathlib.Core.Path.{◌≡◌, refl, sym, ap, ap₂, ◌∙◌, subst}
use mathlib.Core.Bool.{true}
use mathlib.Core.List.{List, map}
use native.Mathlib.Nat.{zero-add, div-one}
use native.Mathlib.Omega.{arith}
use borrow.Author.Tests.{le-leb}
use lib.ListN.{length, get_or}
use Rattle.answer_types.specs.Verdict.{done}
use Rattle.byte_strings.specs.Lists.{part, joined, total, Bytes}
use Rattle.byte_strings.specs.Numbers.{be, number}
use Rattle.byte_strings.proofs.Lists.{part_part, run_get_or, get_or_run, bytes_append, bytes_part, bytes_joined, same_of}
use Rattle.byte_strings.proofs.Numbers.{bytes_be}
use Rattle.tree_index.specs.Tree.{index}
use Rattle.bitfield.specs.Release.{stored_held}
use Rattle.bitfield.specs.Known.{stored_known, held_again}
use Rattle.file_format.specs.Sizes.{longest_chunk, entry_place}
use Rattle.file_format.specs.Messages.{leaf_message}
use Rattle.file_format.specs.Entries.{Entry, hole, entry_bytes, leaf, parent_of}
use Rattle.file_format.specs.Stored.{stored_hash, stored_size, stored_root_sizes, stored_root_message}
use Rattle.file_format.proofs.Nodes.{bytes_cons}
use Rattle.audit.proofs.Audited.{ParentRight}
use Rattle.audit.proofs.Only.{entry_bytes_lem}
use Rattle.lookup.specs.Lookup.{to_chunk}
use Rattle.lookup.proofs.Calls.{chunk_at}
use Rattle.lookup.specs.Read.{chunk_bytes}
use Rattle.lookup.proofs.Visits.{filled_entry}
use Rattle.packet.specs.Packet.{siblings, other_roots, section, packet_of, packet_with}
use Rattle.packet.specs.Check.{chunk_length, siblings_place, others_place, packet_chunk, entry_in, entries_in, sibling_entries, other_entries, packet_total, ordered, root_right, packet_verdict}
use Rattle.packet.specs.Inner.{ChunkOf, Shaped, Readable}
use Rattle.packet.proofs.Above.{few_siblings, few_others}
use Rattle.packet.proofs.Climb.{left_first, right_first}
use Rattle.packet.proofs.Pieces.{length_back, chunk_back, shape_right_lem, sibling_at, other_at}
use Rattle.packet.proofs.Right.{map_run, verdict_done}
use Rattle.packet_compare.proofs.Stands.{sibling_is}
use Rattle.copy_checks.specs.Copy.{Copy, unsigned}
use Rattle.copy_checks.proofs.Steps.{Lent}
use Rattle.copy_take_in.specs.TakeIn.{Given, packet_start, brought}
use Rattle.byte_strings.proofs.Members.{In}
use Rattle.byte_strings.proofs.Bools.{true_both}
use Rattle.theorem_taking_laws.proofs.Ways.{way_index, side_index}
use Rattle.theorem_taking_laws.proofs.Brought.{way_entry, side_entry_lem, other_entry_lem, Brings, on_way, beside_way, other_root_lem, brings}
use Rattle.theorem_taking_laws.proofs.Made.{way_leaf, way_next}
use Rattle.theorem_taking_laws.proofs.Among.{brought_filled}
use Rattle.theorem_taking_laws.proofs.Halves.{Half, in_left_lem, in_right_lem, halves}
use Rattle.theorem_taking_laws.proofs.Starts.{HoldsAll, packet_descent, roots_total}
use Rattle.theorem_taken_in.proofs.Roots.{stored_entry, message_there}
use Rattle.theorem_taken_in.proofs.Has.{Has}

-- ---- one entry

-- 40 bytes of a tree file are an entry's
entry_of : (p t : List ℕ) (at j : ℕ) → part p at 40 ≡ part t (entry_place j) 40 → entry_in p at ≡ stored_entry t j
unfolding entry_in stored_hash stored_size
entry_of p t at j e =
    let hash : part p (at + 0) 32 ≡ part t (entry_place j + 0) 32 =
    sym (part_part p at 40 0 32 (omega arith)) ∙ ap (λ (x : List ℕ). part x 0 32) e ∙ part_part t (entry_place j) 40 0 32 (omega arith) in
    let size : part p (at + 32) 8 ≡ part t (entry_place j + 32) 8 =
    sym (part_part p at 40 32 8 (omega arith)) ∙ ap (λ (x : List ℕ). part x 32 8) e ∙ part_part t (entry_place j) 40 32 8 (omega arith) in
    let a : at ≡ at + 0 = omega arith in
    let b : entry_place j + 0 ≡ entry_place j = omega arith in
    ap₂ (λ (x : List ℕ) (y : ℕ). record { hash = x; size = y })
    (ap (λ (k : ℕ). part p k 32) a ∙ hash ∙ ap (λ (k : ℕ). part t k 32) b) (ap number size)

-- ---- the packet's bytes

section_bytes : (t is : List ℕ) → Bytes t → length is < 256 → Bytes (section t is)
unfolding section
section_bytes t is h l =
    bytes_cons (length is) (joined (map (λ i. part t (entry_place i) 40) is)) l
    (subst Bytes
    (sym (ap (λ (x : List ℕ). joined (map (λ i. part t (entry_place i) 40) x)) (sym (run_get_or is (length is) 0 refl))
    ∙ ap joined (map_run (λ i. part t (entry_place i) 40) (λ j. get_or is j 0) 0 (length is))))
    (bytes_joined (λ j. part t (entry_place (get_or is j 0)) 40) 0 (length is) (λ j. bytes_part t (entry_place (get_or is j 0)) 40 h)))

packet_bytes : (t : List ℕ) (n c : ℕ) (bytes : List ℕ) → Bytes t → Bytes bytes → ChunkOf n c → Bytes (packet_with t n c bytes)
unfolding packet_with
packet_bytes t n c bytes ht hb h =
    bytes_append (be 4 (length bytes)) _ (bytes_be 4 (length bytes))
    (bytes_append bytes _ hb
    (bytes_append (section t (siblings n c)) (section t (other_roots n c)) (section_bytes t (siblings n c) ht (omega (arith, few_siblings n c h)))
    (section_bytes t (other_roots n c) ht (omega (arith, few_others n c h)))))

-- ---- a copy whose entries on the way to chunk i are right

pub record Sound (F : List ℕ → List ℕ) (c : Copy) (i : ℕ) : Type 0 where
  pub lent : Lent c
  pub tree_bytes : Bytes c.tree
  pub content_bytes_lem : Bytes c.content
  pub read : Readable c.tree c.n i (chunk_bytes (unsigned c) i)
  pub adds : total (stored_root_sizes c.tree c.n) ≡ c.size
  pub small : c.size ≤ 68719476736
  pub leaf_size_lem : stored_size c.tree (index 0 i) ≡ length (chunk_bytes (unsigned c) i)
  pub leaf_hash : stored_hash c.tree (index 0 i) ≡ F (leaf_message (chunk_bytes (unsigned c) i))
  pub parents : (d : ℕ) → d < length (siblings c.n i)
      → ParentRight F c.tree c.content (index (suc d) (i / 2 ^ suc d)) (index d (2 * (i / 2 ^ suc d))) (index d (2 * (i / 2 ^ suc d) + 1))
  pub knows : (g : Given) → In g (brought F (packet_of (unsigned c) i) c.n i) → stored_known c.bitfield g.at ≡ true
  pub held : stored_held c.bitfield i ≡ true
  pub indexed : held_again c.bitfield i ≡ c.bitfield

module _ (F : List ℕ → List ℕ) (c : Copy) (i : ℕ) (s : Sound F c i) where
  abbrev t : List ℕ
  t = c.tree

  abbrev n : ℕ
  n = c.n

  abbrev bytes : List ℕ
  bytes = chunk_bytes (unsigned c) i

  abbrev tops : ℕ
  tops = length (siblings c.n i)

  abbrev p : List ℕ
  p = packet_with c.tree c.n i (chunk_bytes (unsigned c) i)

  chunk : ChunkOf c.n i
  chunk = s.read.chunk

  shaped : Shaped p n i
  shaped = record { chunk = chunk; shape = shape_right_lem t n i bytes s.read }

  side_is : (d : ℕ) → d < tops → side_entry_lem p n i d ≡ stored_entry t (side_index i d)
  unfolding sibling_entries entries_in siblings_place
  side_is d l =
      get_or_run (λ j. entry_in p (4 + chunk_length p + 1 + 40 * j)) 0 tops d hole l
      ∙ ap₂ (λ (x y : ℕ). entry_in p (4 + x + 1 + 40 * y)) (length_back t n i bytes s.read) (zero-add d)
      ∙ entry_of p t (4 + length bytes + 1 + 40 * d) (get_or (siblings n i) d 0) (sibling_at t n i bytes s.read d l)
      ∙ ap (stored_entry t) (sibling_is F p n i d l)

  other_is : (j : ℕ) → j < length (other_roots n i) → other_entry_lem p n i j ≡ stored_entry t (get_or (other_roots n i) j 0)
  unfolding other_entries entries_in others_place siblings_place
  other_is j l =
      get_or_run (λ k. entry_in p (4 + chunk_length p + 1 + 40 * length (siblings n i) + 1 + 40 * k)) 0 (length (other_roots n i)) j hole l
      ∙ ap₂ (λ (x y : ℕ). entry_in p (4 + x + 1 + 40 * length (siblings n i) + 1 + 40 * y)) (length_back t n i bytes s.read) (zero-add j)
      ∙ entry_of p t (4 + length bytes + 1 + 40 * length (siblings n i) + 1 + 40 * j) (get_or (other_roots n i) j 0) (other_at t n i bytes s.read j l)

  parent_is : (d : ℕ) → d < tops
      → parent_of F (stored_entry t (index d (2 * (i / 2 ^ suc d)))) (stored_entry t (index d (2 * (i / 2 ^ suc d) + 1))) ≡ stored_entry t (way_index i (suc d))
  unfolding parent_of
  parent_is d l =
      ap₂ (λ (x : List ℕ) (y : ℕ). record { hash = x; size = y }) (sym (s.parents d l).hash) (sym (s.parents d l).sum)

  way_is : (d : ℕ) → d ≤ tops → way_entry F p n i d ≡ stored_entry t (way_index i d)
  unfolding leaf
  way_is zero l =
      way_leaf F p n i ∙ ap (leaf F) (chunk_back t n i bytes s.read)
      ∙ ap₂ (λ (x : List ℕ) (y : ℕ). record { hash = x; size = y }) (sym s.leaf_hash) (sym s.leaf_size_lem)
      ∙ ap (λ (k : ℕ). stored_entry t (index 0 k)) (sym (div-one i))
  way_is (suc d) l =
      way_next F p n i d l ∙ ap₂ (ordered (i / 2 ^ d) (parent_of F)) (way_is d (omega arith)) (side_is d l) ∙ pick (halves i d (i / 2 ^ suc d) refl) ∙ parent_is d l
    where
      way : Entry
      way = stored_entry t (way_index i d)

      side : Entry
      side = stored_entry t (side_index i d)

      pick : Half i d (i / 2 ^ suc d)
          → ordered (i / 2 ^ d) (parent_of F) way side
          ≡ parent_of F (stored_entry t (index d (2 * (i / 2 ^ suc d)))) (stored_entry t (index d (2 * (i / 2 ^ suc d) + 1)))
      pick (in_left_lem q a b w) =
          let z : i / 2 ^ d % 2 ≡ 0 = omega arith in
          left_first F (i / 2 ^ d) way side z ∙ ap₂ (λ (x y : ℕ). parent_of F (stored_entry t x) (stored_entry t y)) (sym a) (sym b)
      pick (in_right_lem q a b w) =
          let z : i / 2 ^ d % 2 ≡ 1 = omega arith in
          right_first F (i / 2 ^ d) way side z ∙ ap₂ (λ (x y : ℕ). parent_of F (stored_entry t x) (stored_entry t y)) (sym a) (sym b)

  brings_stored : (g : Given) → In g (brought F p n i) → g.entry ≡ stored_entry t g.at
  brings_stored g m = pick (brings F p n i g m)
    where
      pick : Brings F p n i g → g.entry ≡ stored_entry t g.at
      pick (on_way d l a e) = e ∙ way_is d l ∙ ap (stored_entry t) (sym a)
      pick (beside_way d l a e) = e ∙ side_is d l ∙ ap (stored_entry t) (sym a)
      pick (other_root_lem j l a e) = e ∙ other_is j l ∙ ap (stored_entry t) (sym a)

  stored : HoldsAll t (brought F p n i)
  stored g m =
      record { hash = ap (λ (e : Entry). e.hash) (sym (brings_stored g m)); size = ap (λ (e : Entry). e.size) (sym (brings_stored g m)) }

  entries_are : (g : Given) → In g (brought F p n i) → part t (entry_place g.at) 40 ≡ entry_bytes g.entry
  unfolding entry_bytes
  entries_are g m =
      entry_bytes_lem t g.at s.tree_bytes (filled_entry t n g.at chunk.count s.lent.tree (brought_filled n i chunk F p g m)).inside
      ∙ ap entry_bytes (sym (brings_stored g m))

  sums : packet_total p n i ≡ c.size
  sums = sym (roots_total F p n i chunk t stored shaped) ∙ s.adds

  passes : packet_verdict F p n i (F (stored_root_message t n)) ≡ done
  unfolding root_right
  passes =
      sym (verdict_done F p n i (F (stored_root_message t n)) done chunk.count chunk.below shaped.shape
      (true_both _ _ (le-leb (packet_total p n i) 68719476736 (subst (λ (x : ℕ). x ≤ 68719476736) (sym sums) s.small))
      (same_of _ _ (ap F (message_there F p n i chunk t stored)))) refl)

  back : packet_chunk p ≡ bytes
  back = chunk_back t n i bytes s.read

  bytes_at_lem : bytes ≡ part c.content (packet_start p n i) (stored_size t (index 0 i))
  unfolding to_chunk
  bytes_at_lem =
      chunk_at (unsigned c) i chunk.below
      (packet_descent F p n i chunk t stored (subst (λ (x : List ℕ). length x ≤ longest_chunk) (sym back) s.read.short))

  piece : part c.content (packet_start p n i) (length (packet_chunk p)) ≡ packet_chunk p
  piece = ap (part c.content (packet_start p n i)) (ap length back ∙ sym s.leaf_size_lem) ∙ sym (back ∙ bytes_at_lem)

  content_bytes : Bytes bytes
  content_bytes = subst Bytes (sym bytes_at_lem) (bytes_part c.content (packet_start p n i) (stored_size t (index 0 i)) s.content_bytes_lem)

  -- it has what its own packet brings
  pub sound_has : Has F c (packet_of (unsigned c) i) i (F (stored_root_message c.tree c.n))
  unfolding packet_of packet_with
  sound_has =
      record {
        lent = s.lent;
        bytes = packet_bytes t n i bytes s.tree_bytes content_bytes chunk;
        packet = passes;
        total = sums;
        entries = entries_are;
        knows = s.knows;
        held = s.held;
        piece = piece;
        index = s.indexed;
      }
