-- What a release leaves behind: on a register that belongs to chunks, held or released, and on every one on which it is done.
-- Assumes nothing.
use Prim.Native.Nat.{ℕ, ◌+◌, ◌*◌, ◌≤◌, ◌<◌}
use mathlib.Core.Path.{◌≡◌, sym, ap, ap₂, ◌∙◌, subst}
use mathlib.Core.Bool.{true}
use mathlib.Core.List.{List, [], ◌++◌}
use native.Mathlib.Nat.{mul-one}
use native.Mathlib.Omega.{arith}
use lib.ListN.{length, get_or, set, take, drop, length-replicate, take-append-drop}
use lib.Seq.{length-take-le, take_at}
use Rattle.answer_types.specs.Verdict.{tree, done}
use Rattle.byte_strings.specs.Lists.{put, zeros, Bytes}
use Rattle.byte_strings.proofs.Lists.{length_put, drop_put, bytes_put, bytes_zeros, take_put_end}
use Rattle.tree_index.specs.Tree.{index}
use Rattle.tree_index.proofs.Filled.{end_filled}
use Rattle.bitfield.specs.Image.{entry_count, entries_of}
use Rattle.bitfield.specs.Release.{released_bits}
use Rattle.bitfield.proofs.Image.{length_entries, put_local}
use Rattle.bitfield.proofs.Bits.{without_one}
use Rattle.bitfield.proofs.Append.{entries_ext}
use Rattle.bitfield.proofs.Release.{released_image}
use Rattle.file_format.specs.Sizes.{used_bitfield}
use Rattle.file_format.specs.Messages.{HashFunction}
use Rattle.file_format.specs.Entries.{Entry, hole, node}
use Rattle.file_format.specs.Images.{leaves, data_size, data_image, tree_image, bitfield_image, bitfield_of}
use Rattle.file_format.specs.Stored.{stored_size}
use Rattle.file_format.specs.Slots.{Slot, released, contents, held_in, Within}
use Rattle.file_format.specs.Belongs.{Register, Belongs}
use Rattle.file_format.proofs.Spans.{span}
use Rattle.file_format.proofs.Slots.{contents_length, leaf_at}
use Rattle.file_format.proofs.Nodes.{Proper, node_at_index, node_proper}
use Rattle.file_format.proofs.OfImage.{stored_node_hash, stored_node_size}
use Rattle.file_format.proofs.Held.{bits_room, bits_cut}
use Rattle.checks.proofs.Passed.{Passed, passes, passed}
use Rattle.lookup.specs.Read.{verdict_found}
use Rattle.lookup.proofs.Answers.{stays_inside, no_held, to_chunk_lem, leaf_of, held_n, held_gone_at, held_done_at}
use Rattle.release.specs.Release.{release_verdict, released_register}
use Rattle.release.specs.Theorems.{leaf_entry, released_in, Releases, ReleaseAnswers, ReleaseAnswersForAll, ReleaseStays, ReleaseStaysForAll}
use Rattle.release.proofs.Bits.{bit_room, bits_long, bits_header, bits_bytes, bits_rest}
use Rattle.release.proofs.Replaced.{data_set, size_set, length_ts, contents_ts, held_ts, tree_ts, within_ts}
use Rattle.release.proofs.Calls.{Clearing, cleared_at, clearing}

zeros_long : (k : ℕ) → length (zeros k) ≡ k
zeros_long k = length-replicate {A = ℕ} k 0

-- what is put within the front of a list
pub front_put : (xs : List ℕ) (m at : ℕ) (ys : List ℕ) → m ≤ length xs → at + length ys ≤ m → take m (put xs at ys) ≡ put (take m xs) at ys
front_put xs m at ys h l =
    let n : length (take m xs) ≡ m = length-take-le m xs h in
    ap (λ (x : List ℕ). take m (put x at ys)) (sym (take-append-drop m xs))
    ∙ ap (take m) ((put_local ys).within (take m xs) (drop m xs) at (omega arith))
    ∙ take_at (put (take m xs) at ys) (drop m xs) m (length_put (take m xs) at ys (omega arith) ∙ n)

-- ---- every register on which it is done

module _ (r : Register) (c : ℕ) (e : release_verdict r c ≡ done) where
  abbrev zs : List ℕ
  zs = zeros (stored_size r.tree (index 0 c))

  clears : Clearing r c
  unfolding release_verdict
  clears = clearing r c e

  abbrev start : ℕ
  start = clears.start

  room : start + length zs ≤ r.size
  room = omega (arith, clears.placing.inside, zeros_long (stored_size r.tree (index 0 c)))

  put_inside : start + length zs ≤ length r.content
  put_inside = omega (arith, clears.placing.passed.content, room)

  still : Passed (released_register r c)
  unfolding released_register
  still =
      let p = clears.placing.passed in
      let b = bit_room r.bitfield r.n c p.bitfield clears.placing.below in
      record {
        count = p.count;
        signed = p.signed;
        tree = p.tree;
        signatures = p.signatures;
        bitfield = omega (arith, p.bitfield, bits_long r.bitfield c b);
        content = omega (arith, p.content, ap length clears.content, length_put r.content start zs put_inside);
        tree_front_lem = p.tree_front_lem;
        signatures_front = p.signatures_front;
        bitfield_front = bits_header r.bitfield c b ∙ p.bitfield_front;
        adds = p.adds;
      }

  pub stays : ReleaseStays r c
  unfolding released_register
  stays =
      let p = clears.placing.passed in
      let below = clears.placing.below in
      record {
        passes = passes (released_register r c) done still;
        bitfield = bits_rest r.bitfield r.n c p.bitfield below;
        content = ap (drop r.size) clears.content ∙ drop_put r.size r.content start zs room (omega (arith, put_inside));
        lent = λ l. record {
          tree = l.tree;
          signatures = l.signatures;
          bitfield = bits_bytes r.bitfield c (bit_room r.bitfield r.n c p.bitfield below) l.bitfield;
          content = subst Bytes (sym clears.content) (bytes_put r.content start zs l.content (bytes_zeros (stored_size r.tree (index 0 c))));
        };
      }

pub release_stays : ReleaseStaysForAll
release_stays r c e = stays r c e

-- ---- a register that belongs to chunks, held or released

abbrev entry_of : List ℕ → ℕ → Entry
entry_of x y = record { hash = x; size = y }

module _ (F : List ℕ → List ℕ) (hf : HashFunction F) (ss : List Slot) (w : Within ss) (r : Register) (b : Belongs F r ss) (p : Passed r) where
  module _ (c : ℕ) (h : held_in ss c ≡ true) where
    below : c < r.n
    below = held_n F hf ss w r b p c h

    below_ss : c < length ss
    below_ss = subst (λ (n : ℕ). c < n) b.count below

    below_cs : c < length (contents ss)
    below_cs = subst (λ (n : ℕ). c < n) (sym (contents_length ss)) below_ss

    -- its entry as it stands is that of its slot
    entry_is : leaf_entry r c ≡ get_or (leaves F ss) c hole
    unfolding leaf_entry node
    entry_is =
        let f = end_filled r.n 0 c (omega (arith, below, mul-one (c + 1))) in
        ap₂ entry_of (stored_node_hash F hf ss w r b (index 0 c) f) (stored_node_size F hf ss w r b (index 0 c) f)
        ∙ node_at_index F (leaves F ss) 0 c

    proper : Proper (leaf_entry r c)
    unfolding node
    proper = subst Proper (sym entry_is) (node_proper F hf ss w 0 c (omega (arith, below_ss, mul-one (c + 1))))

    long : (leaf_entry r c).size ≡ length (get_or (contents ss) c [])
    unfolding leaf_entry
    long = leaf_of F hf ss w r b p c below

    -- zeros as long as its bytes were
    abbrev gone : List ℕ
    gone = zeros (leaf_entry r c).size

    gone_long : length gone ≡ length (get_or (contents ss) c [])
    gone_long = zeros_long (leaf_entry r c).size ∙ long

    says : release_verdict r c ≡ done
    unfolding release_verdict
    says = ap verdict_found (held_done_at F hf ss w r b p c h)

    bits : take (used_bitfield r.n) (released_bits r.bitfield c) ≡ bitfield_image (held_in (released_in r ss c)) r.n
    unfolding used_bitfield bitfield_of released_in
    bits =
        let cut = bits_cut F ss r b in
        let room = bits_room F ss r b in
        ap (take (32 + 3328 * entry_count r.n)) (released_image r.bitfield (held_in ss) r.n room cut.1 c below)
        ∙ take_put_end r.bitfield 32 (3328 * entry_count r.n) (entries_of (without_one (held_in ss) c) r.n) (length_entries (without_one (held_in ss) c) r.n) (omega (arith, room))
        ∙ ap₂ ◌++◌ cut.0 (entries_ext (without_one (held_in ss) c) (held_in (set ss c (released (leaf_entry r c)))) r.n (held_ts ss c (leaf_entry r c) below_ss))

    image : put (take r.size r.content) (span (contents ss) 0 c) gone ≡ data_image (contents (released_in r ss c))
    unfolding released_in
    image =
        ap (λ (l : List ℕ). put l (span (contents ss) 0 c) gone) b.content
        ∙ sym (ap data_image (contents_ts ss c (leaf_entry r c)) ∙ data_set (contents ss) c gone below_cs gone_long)

    count_is : length (released_in r ss c) ≡ length ss
    unfolding released_in
    count_is = length_ts ss c (leaf_entry r c)

    size_is : data_size (contents (released_in r ss c)) ≡ data_size (contents ss)
    unfolding released_in
    size_is = ap data_size (contents_ts ss c (leaf_entry r c)) ∙ size_set (contents ss) c gone gone_long

    tree_is : tree_image F (released_in r ss c) ≡ tree_image F ss
    unfolding released_in
    tree_is = tree_ts ss c (leaf_entry r c) F (entry_is ∙ leaf_at F ss c below_ss)

    content_is : take r.size (released_register r c).content ≡ data_image (contents (released_in r ss c))
    unfolding leaf_entry
    content_is =
        let lands = to_chunk_lem F hf ss w r b p c below in
        let fits = ((stays_inside r p).chunk c below c (span (contents ss) 0 c) lands).1.inside in
        ap (take r.size) (cleared_at r c below lands)
        ∙ front_put r.content r.size (span (contents ss) 0 c) gone p.content (omega (arith, fits, zeros_long (stored_size r.tree (index 0 c)))) ∙ image

    belongs : Belongs F (released_register r c) (released_in r ss c)
    unfolding released_register leaf_entry
    belongs =
        record { count = b.count ∙ sym count_is; total = b.total ∙ sym size_is; tree = b.tree ∙ sym tree_is; bitfield = bits; content = content_is }

    within : Within (released_in r ss c)
    unfolding released_in
    within = within_ts ss c (leaf_entry r c) w proper.long proper.bytes (omega (arith, long, w.short c))

    pub releases : Releases F r ss c
    releases = record { says = says; within = within; belongs = belongs }

  pub answered : ReleaseAnswers F r ss
  unfolding release_verdict
  answered =
      record {
        held = releases;
        not_held = λ c h e. ap verdict_found (held_gone_at F hf ss w r b p c (subst (λ (n : ℕ). c < n) (sym b.count) h) e);
        no_chunk = λ c h. ap verdict_found (no_held r p c (subst (λ (n : ℕ). n ≤ c) (sym b.count) h));
      }

pub release_answers : ReleaseAnswersForAll
release_answers F hf ss w r b e = answered F hf ss w r b (passed r done e).0
