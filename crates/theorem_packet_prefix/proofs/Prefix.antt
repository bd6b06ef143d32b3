-- The proof of `PrefixPacketsForAll`. Assumes nothing.
use Prim.Native.Nat.{ℕ, ◌+◌, ◌≤◌, ◌<◌}
use mathlib.Core.Path.{◌≡◌, sym, ap, ap₂, ◌∙◌}
use mathlib.Core.Bool.{true}
use mathlib.Core.List.{List, [], ◌∷◌, ◌++◌, map}
use native.Mathlib.Nat.{le_dest, le_refl}
use native.Mathlib.Omega.{arith}
use borrow.Author.Tests.{le-leb}
use lib.ListN.{length, get_or, take}
use lib.Seq.{length-take-le}
use Rattle.answer_types.specs.Verdict.{Verdict, tree, done, unless_refused, and_then}
use Rattle.byte_strings.specs.Lists.{part, joined, total, put}
use Rattle.byte_strings.specs.Numbers.{be}
use Rattle.tree_index.specs.Tree.{index, filled, roots, entries}
use Rattle.tree_index.proofs.Filled.{filled_below}
use Rattle.tree_index.proofs.Roots.{root_filled}
use Rattle.bitfield.specs.Image.{entry_count}
use Rattle.file_format.specs.Sizes.{entry_place, used_tree, used_bitfield}
use Rattle.file_format.specs.Messages.{HashFunction, leaf_message}
use Rattle.file_format.specs.Entries.{Entry, entry_bytes}
use Rattle.file_format.specs.Images.{leaves, root_hash_for}
use Rattle.file_format.specs.Stored.{stored_size, stored_root_sizes}
use Rattle.file_format.specs.Slots.{Slot, contents, held_in, Within}
use Rattle.file_format.specs.Belongs.{Register, Belongs}
use Rattle.file_format.proofs.Slots.{contents_length, leaves_length}
use Rattle.file_format.proofs.Nodes.{entry_at_filled}
use Rattle.file_format.proofs.Spans.{span, span_add, span_all, map_ext}
use Rattle.file_format.proofs.Held.{stored_held_lem}
use Rattle.file_format.proofs.OfImage.{stored_entry_lem, stored_node_size, stored_total}
use Rattle.checks.specs.Checks.{holds}
use Rattle.checks.proofs.Passed.{Passed, passes, passed}
use Rattle.audit.proofs.Audited.{accepted_audited}
use Rattle.audit.proofs.Accepts.{has_register}
use Rattle.prefix_root.proofs.First.{filled_more, node_at_first}
use Rattle.lookup.specs.Descent.{reached, always, chunk_within, descent}
use Rattle.lookup.specs.Lookup.{Found, to_chunk}
use Rattle.lookup.specs.Read.{verdict_found, chunk_bytes, hash_judged, read_found, read_verdict, read_part}
use Rattle.lookup.proofs.Lookups.{hash_right}
use Rattle.lookup.proofs.Answers.{answers, to_chunk_lem, held_at}
use Rattle.lookup.proofs.Calls.{chunk_at, reading}
use Rattle.packet.specs.Packet.{section, siblings, other_roots, packet_of, room_or14, make_verdict, made_length, after_make, packet_with}
use Rattle.packet.specs.Check.{packet_verdict, checked_chunk}
use Rattle.packet.specs.Inner.{ChunkOf}
use Rattle.packet.proofs.Rows.{Filled, siblings_filled, others_filled}
use Rattle.packet.proofs.Answers.{packet_answers}
use Rattle.theorem_packet_prefix.specs.Prefix.{told_as, Told, PrefixPacketsForAll}
use Rattle.theorem_packet_prefix.proofs.Agree.{descent_same}
use Rattle.theorem_packet_prefix.proofs.First.{chunk_first, held_first, span_first, within_first}

-- the bytes of a chunk that is read
bytes_read : (F : List ℕ → List ℕ) (r : Register) (i : ℕ) (c : List ℕ) → read_verdict F r i ≡ done → read_part F r i ≡ c → chunk_bytes r i ≡ c
bytes_read F r i c e f = sym (reading F r i e).bytes ∙ f

-- a chunk that is read is packed where there is room
made_by : (F : List ℕ → List ℕ) (x : Register) (i : ℕ) → read_verdict F x i ≡ done → (out : List ℕ) → make_verdict F x i out ≡ room_or14 (holds out (length (packet_of x i)))
unfolding make_verdict
made_by F x i d out = ap (λ (v : Verdict). and_then v (room_or14 (holds out (length (packet_of x i))))) d

-- ---- a register q of the first m chunks beside the register r of all of them

module _ (F : List ℕ → List ℕ) (hf : HashFunction F) (ss : List Slot) (w : Within ss) (r : Register) (b : Belongs F r ss) (p : Passed r)
    (m s size : ℕ) (t : Told r ss m s size) (q : Register) (bq : Belongs F q (take m ss)) (pq : Passed q) where
  few : m ≤ r.n
  few = omega (arith, t.few, b.count)

  wq : Within (take m ss)
  wq = within_first ss m t.few w

  mq : q.n ≡ m
  mq = bq.count ∙ length-take-le m ss t.few

  -- what is filled among m chunks has the same entry in both
  entry_same : (j : ℕ) → filled m j ≡ true → part r.tree (entry_place j) 40 ≡ part q.tree (entry_place j) 40
  entry_same j f =
      let g : filled r.n j ≡ true = filled_more m r.n few j f in
      let h : filled q.n j ≡ true = ap (λ (n : ℕ). filled n j) mq ∙ f in
      stored_entry_lem F hf ss w r b j (filled_below r.n j g)
      ∙ ap entry_bytes
      (entry_at_filled F (leaves F ss) j (ap (λ (n : ℕ). filled n j) (leaves_length F ss ∙ sym b.count) ∙ g)
      ∙ sym (node_at_first F ss m j f)
      ∙ sym (entry_at_filled F (leaves F (take m ss)) j (ap (λ (n : ℕ). filled n j) (leaves_length F (take m ss) ∙ sym bq.count) ∙ h)))
      ∙ sym (stored_entry_lem F hf (take m ss) wq q bq j (filled_below q.n j h))

  size_same : (j : ℕ) → filled m j ≡ true → stored_size r.tree j ≡ stored_size q.tree j
  size_same j f =
      stored_node_size F hf ss w r b j (filled_more m r.n few j f) ∙ ap (λ (e : Entry). e.size) (sym (node_at_first F ss m j f))
      ∙ sym (stored_node_size F hf (take m ss) wq q bq j (ap (λ (n : ℕ). filled n j) mq ∙ f))

  abbrev told : Register
  told = told_as r m s size

  -- ---- the checks 2 to 6

  adds_same : total (stored_root_sizes r.tree m) ≡ size
  unfolding stored_root_sizes
  adds_same =
      ap total
      (map_ext (stored_size r.tree) (stored_size q.tree) (roots m) (λ j l. size_same (get_or (roots m) j 0) (root_filled m j l))
      ∙ ap (λ (n : ℕ). map (stored_size q.tree) (roots n)) (sym mq))
      ∙ stored_total F hf (take m ss) wq q bq ∙ bq.total ∙ sym t.sized

  -- the first m chunks have no more bytes than all
  size_below : size ≤ r.size
  size_below =
      let c = le_dest t.few in
      omega (
        arith,
        t.sized,
        span_all (contents (take m ss)),
        ap (span (contents (take m ss)) 0) (contents_length (take m ss) ∙ length-take-le m ss t.few),
        span_first ss m m (le_refl m),
        span_add (contents ss) 0 m c.0,
        ap (span (contents ss) 0) c.1,
        span_all (contents ss),
        ap (span (contents ss) 0) (contents_length ss),
        b.total,
      )

  pub told_passes : Passed told
  unfolding told_as used_tree used_bitfield entries entry_count
  told_passes =
      record {
        count = omega (arith, p.count, few);
        signed = t.signed;
        tree = omega (arith, p.tree, few);
        signatures = t.stored;
        bitfield = omega (arith, p.bitfield, few);
        content = omega (arith, p.content, size_below);
        tree_front_lem = p.tree_front_lem;
        signatures_front = p.signatures_front;
        bitfield_front = p.bitfield_front;
        adds = adds_same;
      }

  -- ---- a chunk i that is held, among the first m

  module _ (i : ℕ) (h : i < m) (e : held_in ss i ≡ true) where
    in_q : i < q.n
    in_q = omega (arith, mq)

    -- the descent to it
    descents : to_chunk told i ≡ to_chunk q i
    unfolding told_as to_chunk
    descents =
        descent_same (chunk_within i) q.tree r.tree m size_same ∙ ap (descent always (chunk_within i) q.tree) (sym mq)

    -- it comes to the same start
    abbrev start : ℕ
    start = span (contents ss) 0 i

    in_r : i < r.n
    in_r = omega (arith, few)

    lands : to_chunk told i ≡ reached i start
    lands = descents ∙ to_chunk_lem F hf (take m ss) wq q bq pq i in_q ∙ ap (reached i) (span_first ss m i (omega arith))

    bytes_at_lem : chunk_bytes r i ≡ part r.content start (stored_size r.tree (index 0 i))
    bytes_at_lem = chunk_at r i in_r (to_chunk_lem F hf ss w r b p i in_r)

    bytes_same : chunk_bytes told i ≡ chunk_bytes r i
    unfolding told_as
    bytes_same = chunk_at told i h lands ∙ sym bytes_at_lem

    -- the read of it
    of_all : read_verdict F r i ≡ done
    of_all = (answers F hf ss w r b (passes r done p)).read_done i e

    told_read : read_verdict F told i ≡ done
    unfolding told_as read_found read_verdict
    told_read =
        ap (λ (f : Found). verdict_found (hash_judged F r.tree r.content i f)) (held_at told told_passes i h (stored_held_lem F ss r b i in_r ∙ e) lands)
        ∙ ap verdict_found
        (hash_right F r.tree r.content i start (stored_size r.tree (index 0 i))
        ((reading F r i of_all).hash ∙ ap (λ (l : List ℕ). F (leaf_message l)) bytes_at_lem))

    eq : held_in (take m ss) i ≡ true
    eq = held_first ss m i h ∙ e

    of_first : read_verdict F q i ≡ done
    of_first = (answers F hf (take m ss) wq q bq (passes q done pq)).read_done i eq

    chunk_same : chunk_bytes told i ≡ chunk_bytes q i
    chunk_same =
        bytes_same ∙ bytes_read F r i (get_or (contents ss) i []) of_all ((answers F hf ss w r b (passes r done p)).read i e) ∙ sym (chunk_first ss m i h)
        ∙ sym (bytes_read F q i (get_or (contents (take m ss)) i []) of_first ((answers F hf (take m ss) wq q bq (passes q done pq)).read i eq))

    -- ---- the packet

    section_same : (is : List ℕ) → Filled m is → section r.tree is ≡ section q.tree is
    unfolding section
    section_same is f =
        ap (λ (ps : List (List ℕ)). length is ∷ joined ps)
        (map_ext (λ j. part r.tree (entry_place j) 40) (λ j. part q.tree (entry_place j) 40) is (λ j l. entry_same (get_or is j 0) (f j l)))

    -- a packet of these bytes among n chunks, with the entries of a tree file
    abbrev packed : List ℕ → List ℕ → ℕ → List ℕ
    packed u c n = be 4 (length c) ++ (c ++ (section u (siblings n i) ++ section u (other_roots n i)))

    pub packet_same : packet_of told i ≡ packet_of q i
    unfolding told_as packet_of packet_with
    packet_same =
        let c : ChunkOf m i = record { count = told_passes.count; below = h } in
        ap (λ (x : List ℕ). packed r.tree x m) chunk_same
        ∙ ap₂ (λ (x y : List ℕ). be 4 (length (chunk_bytes q i)) ++ (chunk_bytes q i ++ (x ++ y))) (section_same (siblings m i) (siblings_filled m i c))
        (section_same (other_roots m i) (others_filled m i c))
        ∙ ap (packed q.tree (chunk_bytes q i)) (sym mq)

    pub room_says : (out : List ℕ) → length (packet_of told i) ≤ length out → make_verdict F told i out ≡ done
    room_says out l = made_by F told i told_read out ∙ ap room_or14 (le-leb (length (packet_of told i)) (length out) l)

    pub says_same : (out : List ℕ) → make_verdict F told i out ≡ make_verdict F q i out
    says_same out = made_by F told i told_read out ∙ ap (λ (c : List ℕ). room_or14 (holds out (length c))) packet_same ∙ sym (made_by F q i of_first out)

    pub long_same : (out : List ℕ) → made_length F told i out ≡ made_length F q i out
    unfolding made_length
    long_same out = ap₂ (λ (v : Verdict) (q : List ℕ). unless_refused v (length q) 0) (says_same out) packet_same

    pub left_same : (out : List ℕ) → after_make F told i out ≡ after_make F q i out
    unfolding after_make
    left_same out = ap₂ (λ (v : Verdict) (c : List ℕ). unless_refused v (put out 0 c) out) (says_same out) packet_same

    abbrev root : List ℕ
    root = root_hash_for F (take m ss)

    pub shown : packet_verdict F (packet_of told i) m i root ≡ done
    shown =
        ap₂ (λ (c : List ℕ) (n : ℕ). packet_verdict F c n i root) packet_same (sym mq)
        ∙ (packet_answers F hf (take m ss) wq q bq (passes q done pq) i eq).passes

    pub given_back : checked_chunk F (packet_of told i) m i root ≡ get_or (contents ss) i []
    given_back =
        ap₂ (λ (c : List ℕ) (n : ℕ). checked_chunk F c n i root) packet_same (sym mq)
        ∙ (packet_answers F hf (take m ss) wq q bq (passes q done pq) i eq).gives ∙ chunk_first ss m i h

-- ---- there is such a register, and all of them say the same

pub prefix_packets : PrefixPacketsForAll
prefix_packets F hf ss w r b ok m s size t =
    let p = (passed r done ok).0 in
    let x = has_register F (take m ss) hf (within_first ss m t.few w) in
    let q = x.0 in
    let bq = x.3 in
    let pq = (accepted_audited F q x.2).checked in (
      passes (told_as r m s size) done (told_passes F hf ss w r b p m s size t q bq pq),
      λ i h e. record {
        made = room_says F hf ss w r b p m s size t q bq pq i h e;
        same = λ y by oky. packet_same F hf ss w r b p m s size t y by (passed y done oky).0 i h e;
        says = λ y by oky. says_same F hf ss w r b p m s size t y by (passed y done oky).0 i h e;
        long = λ y by oky. long_same F hf ss w r b p m s size t y by (passed y done oky).0 i h e;
        left = λ y by oky. left_same F hf ss w r b p m s size t y by (passed y done oky).0 i h e;
        passes = shown F hf ss w r b p m s size t q bq pq i h e;
        gives = given_back F hf ss w r b p m s size t q bq pq i h e;
      },
    )
