-- A packet that an accepted register takes in, lent as a copy, brings what the register has, and the piece back. Assumes nothing.
use Prim.Native.Nat.{ℕ, ◌+◌, ◌/◌, ◌≤◌, ◌<◌}
use mathlib.Core.Path.{◌≡◌, refl, sym, ap, ap₂, ◌∙◌, subst}
use mathlib.Core.Bool.{Bool, true, false, ◌||◌}
use mathlib.Core.Logic.{inl}
use mathlib.Core.List.{List, [], ◌++◌, append_assoc}
use native.Mathlib.Omega.{arith}
use lib.Dec.{eqb}
use lib.ListN.{length, get_or, set, take, drop}
use lib.Seq.{get_or-set_same, get_or-set_other}
use borrow.Author.Tests.{eq-eqb}
use Rattle.answer_types.specs.Verdict.{done}
use Rattle.byte_strings.specs.Lists.{part, put, Bytes}
use Rattle.byte_strings.proofs.Lists.{bytes_append, bytes_drop, bytes_put}
use Rattle.tree_index.specs.Tree.{index, filled, entries}
use Rattle.tree_index.proofs.Filled.{filled_below}
use Rattle.bitfield.specs.Image.{entry_count, entries_for}
use Rattle.bitfield.specs.Release.{stored_held}
use Rattle.bitfield.specs.Known.{stored_known, held_again}
use Rattle.bitfield.proofs.Bits.{with_one_lem, sets}
use Rattle.bitfield.proofs.Append.{entries_ext}
use Rattle.blake2b.specs.Hash.{node_hash}
use Rattle.file_format.specs.Headers.{bitfield_header}
use Rattle.file_format.specs.Sizes.{entry_place, used_tree, used_bitfield}
use Rattle.file_format.specs.Messages.{HashFunction}
use Rattle.file_format.specs.Entries.{Entry, hole, entry_bytes, leaf, node}
use Rattle.file_format.specs.Stored.{stored_size, stored_chunk}
use Rattle.file_format.specs.Slots.{Slot, held, contents, held_in, Within}
use Rattle.file_format.specs.Images.{leaves, data_size, data_image, bitfield_image, bitfield_of}
use Rattle.file_format.specs.Belongs.{Register, Lent, Belongs}
use Rattle.file_format.proofs.Hashed.{hash_function}
use Rattle.file_format.proofs.Spans.{span}
use Rattle.file_format.proofs.Slots.{contents_length, leaf_at, leaf_size}
use Rattle.file_format.proofs.Nodes.{node_at_index}
use Rattle.file_format.proofs.OfImage.{entry_hash_lem, entry_size_lem, stored_node_hash, stored_node_size, stored_chunk_lem}
use Rattle.file_format.proofs.Held.{stored_held_lem}
use Rattle.file_format.proofs.ImageBytes.{bitfield_image_bytes}
use Rattle.checks.specs.Checks.{judged, register_checks}
use Rattle.checks.proofs.Passed.{Passed, passes}
use Rattle.audit.specs.Audit.{Accepted}
use Rattle.audit.specs.Theorems.{Imaged}
use Rattle.audit.proofs.Audited.{accepted_audited}
use Rattle.audit.proofs.Accepts.{Signed, belongs_accepted}
use Rattle.audit.proofs.Only.{cut, accepted_belongs}
use Rattle.lookup.specs.Descent.{reached}
use Rattle.lookup.specs.Lookup.{found, to_chunk, place_of}
use Rattle.lookup.proofs.Lookups.{one_start}
use Rattle.lookup.proofs.Answers.{answers, to_chunk_lem, place_found}
use Rattle.lookup.proofs.Visits.{filled_entry}
use Rattle.release.proofs.Answers.{front_put}
use Rattle.release.proofs.Replaced.{data_set, size_set}
use Rattle.packet.specs.Check.{packet_chunk, steps}
use Rattle.packet.specs.Inner.{ChunkOf, Shaped}
use Rattle.copy_checks.specs.Copy.{lent_as_copy}
use Rattle.copy_take_in.specs.TakeIn.{Given, packet_start, with_given, with_known, brought, take_verdict, taken_in}
use Rattle.copy_take_in.proofs.Places.{chunk_long}
use Rattle.copy_take_in.proofs.Start.{start_inside}
use Rattle.copy_take_in.proofs.Knowable.{leaf_filled}
use Rattle.byte_strings.proofs.Members.{In, in_map}
use Rattle.theorem_taking_laws.proofs.Among.{brought_filled}
use Rattle.theorem_taking_laws.proofs.Starts.{HoldsAll, packet_descent, brought_proper}
use Rattle.file_format.proofs.Shown.{shown, shown_used, used_shown, shown_held, shown_known, held_more}
use Rattle.theorem_released_back.specs.Returned.{returned, Returned, ReturnedForAll}
use Rattle.theorem_released_back.proofs.Took.{Took, took, chunk_bytes, chunk_short}
use Rattle.theorem_released_back.proofs.Stays.{none_contradicts, tree_stays, known_stays}
use Rattle.theorem_released_back.proofs.Replaced.{length_ts, contents_ts, held_ts, tree_ts, within_ts}

abbrev entry_of : List ℕ → ℕ → Entry
entry_of x y = record { hash = x; size = y }

or_self : (a : Bool) (i : ℕ) → (a || eqb i i) ≡ true
or_self true i = refl
or_self false i = eq-eqb i i refl

module _ (F : List ℕ → List ℕ) (hf : HashFunction F) (r : Register) (p : List ℕ) (bp : Bytes p) (i : ℕ) (t : Took F (lent_as_copy r) p i) (ok : Passed r)
    (ss : List Slot) (w : Within ss) (b : Belongs F r ss) where
  abbrev shaped : Shaped p r.n i
  shaped = t.packet.shaped

  abbrev chunk : ChunkOf r.n i
  chunk = t.packet.shaped.chunk

  abbrev piece : List ℕ
  piece = packet_chunk p

  abbrev all : List Given
  all = brought F p r.n i

  abbrev tail : List ℕ
  tail = drop (used_bitfield r.n) r.bitfield

  below : i < length ss
  below = subst (λ (n : ℕ). i < n) b.count chunk.below

  -- ---- every filled entry is known, so what is brought is there

  bits_are : r.bitfield ≡ shown (held_in ss) (filled r.n) r.n tail
  unfolding bitfield_of
  bits_are =
      used_shown r.bitfield (held_in ss) (filled r.n) r.n
      b.bitfield

  bit_in : (j : ℕ) → j < entries r.n → j / 16384 < entry_count r.n
  unfolding entries entry_count
  bit_in j h = omega arith

  known_as : (j : ℕ) → j < entries r.n → stored_known r.bitfield j ≡ filled r.n j
  known_as j h = ap (λ (l : List ℕ). stored_known l j) bits_are ∙ shown_known (held_in ss) (filled r.n) r.n tail j (bit_in j h)

  filled_all : (g : Given) → In g all → filled r.n g.at ≡ true
  filled_all g l = brought_filled r.n i chunk F p g l

  same : (g : Given) → In g all → part r.tree (entry_place g.at) 40 ≡ entry_bytes g.entry
  same g l =
      none_contradicts r.tree r.bitfield all t.entries g l
      (known_as g.at (filled_below r.n g.at (filled_all g l)) ∙ filled_all g l)

  tree_is : with_given r.tree all ≡ r.tree
  tree_is = tree_stays r.tree all (λ g l. (filled_entry r.tree r.n g.at chunk.count t.lent.tree (filled_all g l)).inside) same

  known_is : with_known r.bitfield all ≡ r.bitfield
  known_is =
      ap (λ (l : List ℕ). with_known l all) bits_are
      ∙ known_stays (held_in ss) r.n tail all
      (λ j l. let q = in_map (λ (g : Given). g.at) j all l in subst (λ (x : ℕ). filled r.n x ≡ true) q.2 (filled_all q.0 q.1))
      ∙ sym bits_are

  pub returned_tree : (returned F r p i).tree ≡ r.tree
  unfolding returned taken_in
  returned_tree = tree_is

  pub returned_bits : (returned F r p i).bitfield ≡ held_again r.bitfield i
  unfolding returned taken_in
  returned_bits = ap (λ (l : List ℕ). held_again l i) known_is

  bits_now : (returned F r p i).bitfield ≡ shown (with_one_lem (held_in ss) i) (filled r.n) r.n tail
  bits_now = returned_bits ∙ ap (λ (l : List ℕ). held_again l i) bits_are ∙ held_more (held_in ss) (filled r.n) r.n tail i chunk.below

  -- ---- the leaf is that of the packet's chunk

  leaf_in_lem : In (record { at = index 0 i; entry = leaf F piece }) all
  unfolding brought steps In
  leaf_in_lem = inl refl

  -- the tree holds all that is brought
  has_all : HoldsAll r.tree all
  has_all g l =
      let q = brought_proper F hf p bp r.n i t.packet g l in
      record { hash = entry_hash_lem r.tree g.at g.entry q (same g l); size = entry_size_lem r.tree g.at g.entry q (same g l) }

  leaf_same : leaf F piece ≡ get_or (leaves F ss) i hole
  unfolding leaf node
  leaf_same =
      let f = leaf_filled r.n i chunk in
      let h = has_all (record { at = index 0 i; entry = leaf F piece }) leaf_in_lem in
      ap₂ entry_of (sym h.hash ∙ stored_node_hash F hf ss w r b (index 0 i) f) (sym h.size ∙ stored_node_size F hf ss w r b (index 0 i) f)
      ∙ node_at_index F (leaves F ss) 0 i

  pub piece_long : length piece ≡ stored_size r.tree (index 0 i)
  unfolding leaf
  piece_long = sym (has_all (record { at = index 0 i; entry = leaf F piece }) leaf_in_lem).size

  long_same : length piece ≡ length (get_or (contents ss) i [])
  unfolding leaf
  long_same = ap (λ (e : Entry). e.size) leaf_same ∙ leaf_size F ss i

  -- ---- the start is that of the chunk

  pub descends : to_chunk r i ≡ reached i (packet_start p r.n i)
  unfolding to_chunk
  descends = packet_descent F p r.n i chunk r.tree has_all (chunk_short p r.n i shaped bp)

  start_is : packet_start p r.n i ≡ span (contents ss) 0 i
  start_is = one_start (sym descends ∙ to_chunk_lem F hf ss w r b ok i chunk.below)

  inside : packet_start p r.n i + length piece ≤ r.size
  inside = omega (arith, start_inside p r.n i, t.total, chunk_long p r.n i shaped)

  -- ---- the register belongs to the chunks with this one held

  abbrev ts : List Slot
  ts = set ss i (held (packet_chunk p))

  now_content : take r.size (put r.content (packet_start p r.n i) piece) ≡ data_image (contents ts)
  now_content =
      front_put r.content r.size (packet_start p r.n i) piece t.lent.content inside
      ∙ ap₂ (λ (l : List ℕ) (a : ℕ). put l a piece) b.content start_is
      ∙ sym (ap data_image (contents_ts ss i piece) ∙ data_set (contents ss) i piece (subst (λ (m : ℕ). i < m) (sym (contents_length ss)) below) long_same)

  now_bits : take (used_bitfield r.n) (returned F r p i).bitfield ≡ bitfield_image (held_in ts) r.n
  unfolding bitfield_of
  now_bits =
      ap (take (used_bitfield r.n)) bits_now ∙ shown_used (with_one_lem (held_in ss) i) (filled r.n) r.n tail
      ∙ ap (λ (l : List ℕ). bitfield_header ++ l)
      (entries_ext (with_one_lem (held_in ss) i) (held_in ts) r.n (held_ts ss i piece below))

  pub now_within : Within ts
  now_within = within_ts ss i piece w (chunk_short p r.n i shaped bp) (chunk_bytes p r.n i shaped bp)

  pub now_belongs : Belongs F (returned F r p i) ts
  unfolding returned taken_in
  now_belongs =
      record {
        count = b.count ∙ sym (length_ts ss i piece);
        total = b.total ∙ sym (ap data_size (contents_ts ss i piece) ∙ size_set (contents ss) i piece long_same);
        tree = ap (take (used_tree r.n)) tree_is ∙ b.tree ∙ sym (tree_ts ss i piece F (leaf_same ∙ leaf_at F ss i below));
        bitfield = now_bits;
        content = now_content;
      }

  -- ---- what stays

  pub known_stay_lem : (j : ℕ) → j < entries r.n → stored_known (returned F r p i).bitfield j ≡ stored_known r.bitfield j
  known_stay_lem j h =
      ap (λ (l : List ℕ). stored_known l j) bits_now ∙ shown_known (with_one_lem (held_in ss) i) (filled r.n) r.n tail j (bit_in j h) ∙ sym (known_as j h)

  pub held_stay_lem : (j : ℕ) → j < r.n → (j ≡ i → ⊥) → stored_held (returned F r p i).bitfield j ≡ stored_held r.bitfield j
  held_stay_lem j h d =
      ap (λ (l : List ℕ). stored_held l j) bits_now ∙ shown_held (with_one_lem (held_in ss) i) (filled r.n) r.n tail j h
      ∙ sym (sets.other (held_in ss) i j d) ∙ sym (stored_held_lem F ss r b j h)

  pub holds : stored_held (returned F r p i).bitfield i ≡ true
  holds =
      ap (λ (l : List ℕ). stored_held l i) bits_now ∙ shown_held (with_one_lem (held_in ss) i) (filled r.n) r.n tail i chunk.below
      ∙ or_self (held_in ss i) i

  same_count : r.n ≡ (returned F r p i).n
  unfolding returned
  same_count = refl

  pub chunks_stay_lem : (j : ℕ) → j < r.n → (j ≡ i → ⊥)
      → stored_chunk (returned F r p i).tree (returned F r p i).content j ≡ stored_chunk r.tree r.content j
  chunks_stay_lem j h d =
      stored_chunk_lem F hf ts now_within (returned F r p i) now_belongs j (subst (λ (n : ℕ). j < n) same_count h)
      ∙ ap (λ (l : List (List ℕ)). get_or l j []) (contents_ts ss i piece) ∙ get_or-set_other (contents ss) i j piece [] d
      ∙ sym (stored_chunk_lem F hf ss w r b j h)

  -- the bytes of every buffer
  now_bytes : Bytes r.bitfield → Bytes (returned F r p i).bitfield
  unfolding shown bitfield_of
  now_bytes h =
      subst Bytes
      (sym (bits_now ∙ sym (append_assoc bitfield_header (entries_for (with_one_lem (held_in ss) i) (filled r.n) r.n) tail)))
      (bytes_append (bitfield_image (with_one_lem (held_in ss) i) r.n) tail (bitfield_image_bytes (with_one_lem (held_in ss) i) r.n)
      (bytes_drop (used_bitfield r.n) r.bitfield h))

  pub now_lent : Lent r → Lent (returned F r p i)
  unfolding returned taken_in
  now_lent l =
      record {
        tree = subst Bytes (sym tree_is) l.tree;
        signatures = l.signatures;
        bitfield = now_bytes l.bitfield;
        content = bytes_put r.content (packet_start p r.n i) piece l.content (chunk_bytes p r.n i shaped bp);
      }

-- ---- an accepted register

module _ (F : List ℕ → List ℕ) (hf : HashFunction F) (r : Register) (l : Lent r) (a : Accepted F r) (p : List ℕ) (bp : Bytes p) (i : ℕ) (t : Took F (lent_as_copy r) p i) where
  ok : Passed r
  ok = (accepted_audited F r a).checked

  abbrev own : Within (cut r) × Belongs F r (cut r) × Signed r
  own = accepted_belongs F hf r l a

  now_accepted : Accepted F (returned F r p i)
  unfolding returned
  now_accepted =
      belongs_accepted F hf (set (cut r) i (held (packet_chunk p))) (now_within F hf r p bp i t ok (cut r) own.0 own.1) (returned F r p i)
      (now_belongs F hf r p bp i t ok (cut r) own.0 own.1) (record { count = own.2.count; long = own.2.long; front = own.2.front })

  now_passes : judged (register_checks (returned F r p i)) done ≡ done
  now_passes = passes (returned F r p i) done (accepted_audited F (returned F r p i) now_accepted).checked

  held_now : held_in (set (cut r) i (held (packet_chunk p))) i ≡ true
  held_now = sym (held_ts (cut r) i (packet_chunk p) (below F hf r p bp i t ok (cut r) own.0 own.1) i) ∙ or_self (held_in (cut r) i) i

  content_now : (returned F r p i).content ≡ put r.content (packet_start p r.n i) (packet_chunk p)
  unfolding returned taken_in
  content_now = refl

  place_now : place_of r i ≡ found (packet_start p r.n i) (stored_size r.tree (index 0 i))
  place_now = place_found r ok i (chunk F hf r p bp i t ok (cut r) own.0 own.1).below (descends F hf r p bp i t ok (cut r) own.0 own.1)

  chunk_now : get_or (contents (set (cut r) i (held (packet_chunk p)))) i [] ≡ packet_chunk p
  chunk_now =
      ap (λ (x : List (List ℕ)). get_or x i []) (contents_ts (cut r) i (packet_chunk p))
      ∙ get_or-set_same (contents (cut r)) i (packet_chunk p) []
      (subst (λ (m : ℕ). i < m) (sym (contents_length (cut r))) (below F hf r p bp i t ok (cut r) own.0 own.1))

  imaged : (ss : List Slot) (sigs : List (List ℕ)) → Imaged F r ss sigs → Imaged F (returned F r p i) (set ss i (held (packet_chunk p))) sigs
  unfolding returned
  imaged ss sigs m =
      record {
        within = now_within F hf r p bp i t ok ss m.within m.belongs;
        belongs = now_belongs F hf r p bp i t ok ss m.within m.belongs;
        signed = m.signed;
        count = m.count;
        each = m.each;
        signatures = m.signatures;
      }

  pub comes_back : Returned F r p i
  comes_back =
      let told = answers F hf (set (cut r) i (held (packet_chunk p))) (now_within F hf r p bp i t ok (cut r) own.0 own.1) (returned F r p i)
      (now_belongs F hf r p bp i t ok (cut r) own.0 own.1) now_passes in
      record {
        accepted = now_accepted;
        lent = now_lent F hf r p bp i t ok (cut r) own.0 own.1 l;
        holds = holds F hf r p bp i t ok (cut r) own.0 own.1;
        read_done = told.read_done i held_now;
        reads = told.read i held_now ∙ chunk_now;
        tree = returned_tree F hf r p bp i t ok (cut r) own.0 own.1;
        bitfield = returned_bits F hf r p bp i t ok (cut r) own.0 own.1;
        start = packet_start p r.n i;
        place = place_now;
        content = content_now;
        size = piece_long F hf r p bp i t ok (cut r) own.0 own.1;
        known_stay = known_stay_lem F hf r p bp i t ok (cut r) own.0 own.1;
        held_stay = held_stay_lem F hf r p bp i t ok (cut r) own.0 own.1;
        chunks_stay = chunks_stay_lem F hf r p bp i t ok (cut r) own.0 own.1;
        belongs = λ ss w b. (now_within F hf r p bp i t ok ss w b, now_belongs F hf r p bp i t ok ss w b);
        images = imaged;
      }

pub returned_for_all : ReturnedForAll
returned_for_all F hf r l a p bp i root e = comes_back F hf r l a p bp i (took F (lent_as_copy r) p i root e)

-- ---- at the hash of the calls

pub returned_of_the_call : (r : Register) → Lent r → Accepted node_hash r → (p : List ℕ) → Bytes p → (i : ℕ) (root : List ℕ)
    → take_verdict node_hash (lent_as_copy r) p i root ≡ done → Returned node_hash r p i
returned_of_the_call = returned_for_all node_hash hash_function
