-- A copy that has all that a packet brings: what its calls answer of that chunk, and that the chunk comes back by the packet after a release.
-- Assumes nothing.
use Prim.Native.Nat.{ℕ, ◌+◌, ◌/◌, ◌≤◌}
use mathlib.Core.Path.{◌≡◌, refl, sym, ap, ap₂, ◌∙◌, subst}
use mathlib.Core.Logic.{inl}
use mathlib.Core.Bool.{true, false}
use mathlib.Core.List.{List}
use native.Mathlib.Omega.{arith}
use borrow.Author.Tests.{eq-eqb, le-leb}
use lib.Dec.{leb}
use lib.ListN.{length, length-replicate}
use Rattle.answer_types.specs.Verdict.{Verdict, tree, done, unless_refused, and_then}
use Rattle.byte_strings.specs.Lists.{part, put, total, zeros, Bytes}
use Rattle.byte_strings.specs.Lowest.{Lowest, nowhere, first}
use Rattle.byte_strings.proofs.Lists.{length_put, same_eq}
use Rattle.tree_index.specs.Tree.{index, roots}
use Rattle.bitfield.specs.Append.{bits_place}
use Rattle.bitfield.specs.Release.{stored_held, released_bits}
use Rattle.bitfield.specs.Known.{stored_known, held_again}
use Rattle.file_format.specs.Sizes.{entry_place, used_bitfield}
use Rattle.file_format.specs.Messages.{HashFunction, leaf_message}
use Rattle.file_format.specs.Entries.{entry_bytes, leaf}
use Rattle.file_format.specs.Stored.{stored_size, stored_hash, stored_root_sizes, stored_root_message}
use Rattle.checks.specs.Checks.{holds, adds_up}
use Rattle.checks.proofs.Judged.{judged_done}
use Rattle.lookup.specs.Descent.{reached, chunk_within}
use Rattle.lookup.specs.Lookup.{found, to_chunk}
use Rattle.lookup.specs.Read.{verdict_found, bytes_found, chunk_bytes, hash_judged}
use Rattle.lookup.proofs.Lookups.{hash_right, as_part_lem}
use Rattle.lookup.proofs.Calls.{chunk_at}
use Rattle.release.proofs.Calls.{cleared_at}
use Rattle.lookup.proofs.ReadOrder.{reads}
use Rattle.release.specs.Release.{released_register}
use Rattle.release.proofs.Bits.{bits_long, bits_header}
use Rattle.packet.specs.Packet.{packet_of, room_or14, packet_with}
use Rattle.packet.specs.Check.{packet_chunk, packet_total, steps, packet_root_message, root_right, packet_verdict}
use Rattle.packet.specs.Inner.{ChunkOf}
use Rattle.copy_checks.specs.Copy.{Copy, known, unsigned, copy_of}
use Rattle.copy_checks.specs.Descents.{copy_to_chunk}
use Rattle.copy_checks.specs.Checks.{unknown_root, passed_over}
use Rattle.copy_checks.proofs.Steps.{Lent, Knowing, copy_passes}
use Rattle.copy_checks.proofs.Descents.{unknown_to_chunk, chunk_same}
use Rattle.copy_lookup.specs.Lookups.{copy_held_place_of}
use Rattle.copy_lookup.proofs.AsRegister.{held_found_at}
use Rattle.copy_lookup.specs.Reading.{copy_read_found, copy_read_verdict, copy_read_part}
use Rattle.copy_roots.specs.Roots.{copy_root_verdict, copy_root_answer}
use Rattle.copy_packet.specs.Making.{copy_make_verdict, copy_after_make, copy_made_length}
use Rattle.copy_release.specs.Release.{copy_release_verdict, released_copy}
use Rattle.copy_take_in.specs.TakeIn.{Given, packet_start, with_given, with_known, brought, take_verdict, taken_in}
use Rattle.copy_take_in.specs.Inner.{Fits}
use Rattle.copy_take_in.proofs.Stages.{fits}
use Rattle.byte_strings.proofs.Members.{In, in_map}
use Rattle.byte_strings.proofs.Puts.{put_over}
use Rattle.byte_strings.proofs.Bools.{both_true}
use Rattle.bitfield.proofs.StoredBits.{RoomFor}
use Rattle.theorem_taking_laws.proofs.Given.{places_of, known_held}
use Rattle.theorem_taking_laws.proofs.Among.{root_brought}
use Rattle.theorem_taking_laws.proofs.Starts.{HoldsAll, leaf_size, packet_descent, reads_brought, roots_total, brought_proper}
use Rattle.theorem_taking_laws.proofs.Unknown.{none_unknown}
use Rattle.theorem_packets_commute.proofs.Turns.{Takes, taken, fitting, room, bit_room, bytes_inside}
use Rattle.theorem_packets_commute.proofs.Chunks.{bytes_hold, short_chunk}
use Rattle.theorem_released_back.proofs.Stays.{put_part_lem, tree_stays}
use Rattle.theorem_taken_in.proofs.Bits.{trees_again, held_back, released_gone}
use Rattle.theorem_taken_in.proofs.Roots.{message_there}
use Rattle.theorem_taken_in.proofs.Rebuilt.{rebuilt}

-- a copy has all that the packet of chunk i brings, known, and the chunk held; the Index of its bitfield entry follows from the data bits
pub record Has (F : List ℕ → List ℕ) (c : Copy) (p : List ℕ) (i : ℕ) (root : List ℕ) : Type 0 where
  pub lent : Lent c
  pub bytes : Bytes p
  pub packet : packet_verdict F p c.n i root ≡ done
  pub total : packet_total p c.n i ≡ c.size
  pub entries : (g : Given) → In g (brought F p c.n i) → part c.tree (entry_place g.at) 40 ≡ entry_bytes g.entry
  pub knows : (g : Given) → In g (brought F p c.n i) → stored_known c.bitfield g.at ≡ true
  pub held : stored_held c.bitfield i ≡ true
  pub piece : part c.content (packet_start p c.n i) (length (packet_chunk p)) ≡ packet_chunk p
  pub index : held_again c.bitfield i ≡ c.bitfield

module _ (F : List ℕ → List ℕ) (H : HashFunction F) (c : Copy) (p : List ℕ) (i : ℕ) (root : List ℕ) (h : Has F c p i root) where
  abbrev n : ℕ
  n = c.n

  abbrev gs : List Given
  gs = brought F p c.n i

  abbrev start : ℕ
  start = packet_start p c.n i

  abbrev fit : Fits p c.n i
  fit = fits F c p i root (sym h.packet)

  abbrev chunk : ChunkOf c.n i
  chunk = (fits F c p i root (sym h.packet)).shaped.chunk

  stored : HoldsAll c.tree gs
  stored = bytes_hold c.tree gs (brought_proper F H p h.bytes n i fit) h.entries

  -- ---- the descent

  lands : to_chunk (unsigned c) i ≡ reached i start
  unfolding to_chunk
  lands = packet_descent F p n i chunk c.tree stored (short_chunk p n i fit)

  read_known : unknown_to_chunk c i ≡ nowhere
  unfolding unknown_to_chunk
  read_known =
      none_unknown (known c) (reads (chunk_within i) c.tree c.n)
      (λ x m. let q = reads_brought F p n i chunk c.tree stored x m in h.knows (record { at = x; entry = q.0 }) q.1)

  to_leaf : copy_to_chunk c i ≡ reached i start
  to_leaf = chunk_same c i read_known ∙ lands

  -- ---- the checks

  knowing : Knowing c
  unfolding unknown_root adds_up
  knowing =
      record {
        lent = h.lent;
        rooted = none_unknown (known c) (roots c.n) (λ x m. let q = root_brought n i chunk F p x m in h.knows (record { at = x; entry = q.0 }) q.1);
        adds = eq-eqb (total (stored_root_sizes c.tree c.n)) c.size (roots_total F p n i chunk c.tree stored fit.shaped ∙ h.total);
      }

  held_found : copy_held_place_of c i ≡ found start (stored_size c.tree (index 0 i))
  held_found = held_found_at c i knowing chunk.below h.held to_leaf

  -- ---- the read

  piece_is : part c.content start (stored_size c.tree (index 0 i)) ≡ packet_chunk p
  piece_is = ap (part c.content start) (leaf_size F p n i chunk c.tree stored) ∙ h.piece

  bytes_are : chunk_bytes (unsigned c) i ≡ packet_chunk p
  bytes_are = chunk_at (unsigned c) i chunk.below lands ∙ piece_is

  leaf_in_lem : In (record { at = index 0 i; entry = leaf F (packet_chunk p) }) gs
  unfolding brought steps In
  leaf_in_lem = inl refl

  leaf_hash_lem : stored_hash c.tree (index 0 i) ≡ F (leaf_message (packet_chunk p))
  unfolding leaf
  leaf_hash_lem = (stored _ leaf_in_lem).hash

  read_found_lem : copy_read_found F c i ≡ found start (start + stored_size c.tree (index 0 i))
  unfolding copy_read_found
  read_found_lem =
      ap (hash_judged F c.tree c.content i) held_found
      ∙ hash_right F c.tree c.content i start (stored_size c.tree (index 0 i)) (leaf_hash_lem ∙ ap (λ (x : List ℕ). F (leaf_message x)) (sym piece_is))

  pub read_done_lem : copy_read_verdict F c i ≡ done
  unfolding copy_read_verdict
  read_done_lem = ap verdict_found read_found_lem

  pub reads_piece : copy_read_part F c i ≡ packet_chunk p
  unfolding copy_read_part
  reads_piece = ap (bytes_found c.content) read_found_lem ∙ as_part_lem c.content start (stored_size c.tree (index 0 i)) ∙ piece_is

  -- ---- the root hash

  root_same_lem : F (packet_root_message F p c.n i) ≡ root
  unfolding packet_verdict root_right
  root_same_lem =
      let a = (judged_done _ done h.packet).0 in
      same_eq (F (packet_root_message F p c.n i)) root (both_true (leb (packet_total p c.n i) 68719476736) _ a.1.1.1.0).1

  pub root_done_lem : copy_root_verdict c ≡ done
  unfolding copy_root_verdict
  root_done_lem = copy_passes c done knowing

  pub root_is : copy_root_answer F c ≡ root
  unfolding copy_root_answer
  root_is =
      ap (λ (v : Verdict). unless_refused v (F (stored_root_message c.tree c.n)) (zeros 32)) root_done_lem
      ∙ ap F (sym (message_there F p n i chunk c.tree stored)) ∙ root_same_lem

  -- ---- the packet

  pub packet_is : packet_of (unsigned c) i ≡ p
  unfolding packet_of packet_with
  packet_is = ap (packet_with c.tree c.n i) bytes_are ∙ rebuilt F p h.bytes n i fit.shaped c.tree h.entries

  module _ (out : List ℕ) (fitting-out : length p ≤ length out) where
    pub made_done_lem : copy_make_verdict F c i out ≡ done
    unfolding copy_make_verdict
    made_done_lem =
        ap (λ (v : Verdict). and_then v (room_or14 (holds out (length (packet_of (unsigned c) i))))) read_done_lem
        ∙ ap (λ (q : List ℕ). room_or14 (holds out (length q))) packet_is ∙ ap room_or14 (le-leb (length p) (length out) fitting-out)

    pub made_out : copy_after_make F c i out ≡ put out 0 p
    unfolding copy_after_make
    made_out = ap₂ (λ (v : Verdict) (q : List ℕ). unless_refused v (put out 0 q) out) made_done_lem packet_is

    pub made_long : copy_made_length F c i out ≡ length p
    unfolding copy_made_length
    made_long = ap₂ (λ (v : Verdict) (q : List ℕ). unless_refused v (length q) 0) made_done_lem packet_is

  -- ---- a release, and the packet again

  pub release_done_lem : copy_release_verdict c i ≡ done
  unfolding copy_release_verdict
  release_done_lem = ap verdict_found held_found

  bits_room : RoomFor c.bitfield (i / 8192)
  bits_room = bit_room F H c p i h.lent h.bytes fit

  gone_long : length (zeros (length (packet_chunk p))) ≡ length (packet_chunk p)
  gone_long = length-replicate {A = ℕ} (length (packet_chunk p)) 0

  inside : start + length (packet_chunk p) ≤ length c.content
  inside = bytes_inside F H c p i h.lent h.bytes fit h.total

  content_left : (released_copy c i).content ≡ put c.content start (zeros (length (packet_chunk p)))
  unfolding released_copy
  content_left = cleared_at (unsigned c) i chunk.below lands ∙ ap (λ (k : ℕ). put c.content start (zeros k)) (leaf_size F p n i chunk c.tree stored)

  bits_left : (released_copy c i).bitfield ≡ released_bits c.bitfield i
  unfolding released_copy released_register
  bits_left = refl

  content_long : length (released_copy c i).content ≡ length c.content
  content_long = ap length content_left ∙ length_put c.content start (zeros (length (packet_chunk p))) (omega (arith, inside, gone_long))

  lent_left : Lent (released_copy c i)
  unfolding released_copy released_register
  lent_left =
      record {
        count = h.lent.count;
        tree = h.lent.tree;
        bitfield = subst (λ (k : ℕ). used_bitfield c.n ≤ k) (sym (bits_long c.bitfield i bits_room)) h.lent.bitfield;
        content = subst (λ (k : ℕ). c.size ≤ k) (sym content_long) h.lent.content;
        tree_front_lem = h.lent.tree_front_lem;
        bitfield_front = bits_header c.bitfield i bits_room ∙ h.lent.bitfield_front;
      }

  roots_left : passed_over (unknown_root (released_copy c i)) (adds_up (released_copy c i).tree (released_copy c i).n (released_copy c i).size) ≡ true
  unfolding released_copy released_register
  roots_left = pick (unknown_root (released_copy c i))
    where
      pick : (l : Lowest) → passed_over l (adds_up c.tree c.n c.size) ≡ true
      pick nowhere = knowing.adds
      pick (first k) = refl

  takes_left : Takes F (released_copy c i) p i root
  unfolding released_copy released_register
  takes_left =
      record {
        passes = record { lent = lent_left; roots = roots_left; packet = h.packet; total = h.total };
        bytes = λ e.
            absurd
            (let f : true ≡ false = sym e ∙ released_gone c.bitfield i bits_room in
            let z : ◌≡◌ {A = ℕ} 0 1 = cc in omega arith);
        entries = λ g m k. h.entries g m;
      }

  pub taken_again : take_verdict F (released_copy c i) p i root ≡ done
  taken_again = taken F (released_copy c i) p i root takes_left

  bits_back : held_again (with_known (released_bits c.bitfield i) gs) i ≡ c.bitfield
  unfolding with_known
  bits_back =
      let l = bits_long c.bitfield i bits_room in
      known_held (released_bits c.bitfield i) gs i (subst (λ (x : ℕ). bits_place (i / 8192 + 1) ≤ x) (sym l) bits_room)
      (λ g m. subst (λ (x : ℕ). bits_place (g.at / 16384 + 1) ≤ x) (sym l) (room F H c p i h.lent h.bytes fit g m))
      ∙ ap (λ (xs : List ℕ). with_known xs gs) (held_back c.bitfield i bits_room ∙ h.index)
      ∙ trees_again c.bitfield (places_of gs)
      (λ j m. let q = in_map (λ (g : Given). g.at) j gs m in subst (λ (x : ℕ). stored_known c.bitfield x ≡ true) q.2 (h.knows q.0 q.1))

  content_back : put (released_copy c i).content start (packet_chunk p) ≡ c.content
  content_back =
      ap (λ (l : List ℕ). put l start (packet_chunk p)) content_left
      ∙ put_over c.content start (zeros (length (packet_chunk p))) (packet_chunk p) (omega (arith, inside)) gone_long
      ∙ ap (put c.content start) (sym h.piece) ∙ put_part_lem c.content start (length (packet_chunk p)) inside

  tree_back : with_given c.tree gs ≡ c.tree
  tree_back = tree_stays c.tree gs (λ g m. (fitting F H c p i h.lent h.bytes fit g m).inside) h.entries

  pub comes_back : taken_in F (released_copy c i) p i ≡ c
  unfolding taken_in released_copy released_register
  comes_back =
      ap₂ (λ (x y : List ℕ). copy_of x y (put (released_copy c i).content start (packet_chunk p)) c.n c.size) tree_back bits_back
      ∙ ap (λ (z : List ℕ). copy_of c.tree c.bitfield z c.n c.size) content_back
