-- What the bytes of a register say that belongs to chunks, held or released: at every place what the image has there.
-- Assumes nothing.
use Prim.Native.Nat.{ℕ, zero, suc, ◌+◌, ◌*◌, ◌^◌, ◌≤◌, ◌<◌}
use mathlib.Core.Path.{◌≡◌, refl, sym, ap, ap₂, ◌∙◌, subst}
use mathlib.Core.Bool.{Bool, true}
use mathlib.Core.List.{List, [], map}
use native.Mathlib.Nat.{mul-one, mul_comm, zero-add, add-zero}
use native.Mathlib.Omega.{arith}
use lib.ListN.{length, get_or, length-append}
use lib.Seq.{take_all}
use Rattle.byte_strings.specs.Lists.{part, total}
use Rattle.byte_strings.specs.Numbers.{be, number}
use Rattle.byte_strings.proofs.Lists.{part_part, part_behind, part_front, part_joined, length_joined, run_ext, part_take}
use Rattle.byte_strings.proofs.Numbers.{length_be, number_be}
use Rattle.tree_index.specs.Tree.{index, block, filled, left_child, right_child, roots, entries}
use Rattle.tree_index.proofs.Index.{depth_index, block_index, by_coordinates, left_child_index, right_child_index}
use Rattle.tree_index.proofs.Filled.{filled_below, filled_end, end_filled, filled_left, filled_right}
use Rattle.tree_index.proofs.Roots.{root_filled}
use Rattle.bitfield.proofs.Image.{length_entries}
use Rattle.file_format.specs.Headers.{front, header, tree_header, signatures_header, bitfield_header}
use Rattle.file_format.specs.Sizes.{entry_place, used_tree, used_signatures, used_bitfield}
use Rattle.file_format.specs.Messages.{HashFunction, leaf_message, parent_message, root_item, root_message}
use Rattle.file_format.specs.Entries.{Entry, entry_bytes, node, node_at, entry_at, tree_entries, root_message_of}
use Rattle.file_format.specs.Images.{data_image, tree_image, leaves, message_for, root_message_for, bitfield_image, bitfield_of}
use Rattle.file_format.specs.Stored.{stored_hash, stored_size, stored_root_sizes, stored_root_message, stored_start, stored_chunk, stored_message}
use Rattle.file_format.specs.Slots.{Slot, contents, Within}
use Rattle.file_format.specs.Belongs.{Register, Belongs}
use Rattle.file_format.proofs.Spans.{span, map_ext, chunk_inside, span_all, span_one, part_chunk, cover}
use Rattle.file_format.proofs.Slots.{contents_length, leaves_length}
use Rattle.file_format.proofs.Nodes.{Proper, by_depth_lem, node_at_index, entry_at_filled, entry_at_proper, entry_length, node_size, message_leaf, message_parent}
use Rattle.bitfield.specs.Image.{entries_of}

-- ---- lengths

pub tree_header_length : length tree_header ≡ 32
unfolding tree_header header front be
tree_header_length = refl

pub signatures_header_length : length signatures_header ≡ 32
unfolding signatures_header header front be
signatures_header_length = refl

pub bitfield_header_length : length bitfield_header ≡ 32
unfolding bitfield_header header front be
bitfield_header_length = refl

pub bitfield_image_length : (held : ℕ → Bool) (n : ℕ) → length (bitfield_image held n) ≡ used_bitfield n
unfolding bitfield_of used_bitfield
bitfield_image_length held n = length-append bitfield_header (entries_of held n) ∙ ap₂ ◌+◌ bitfield_header_length (length_entries held n)

-- the header of the signatures file is used
pub signatures_32 : (s : ℕ) → 32 ≤ used_signatures s
unfolding used_signatures
signatures_32 s = omega arith

pub entry_inside : (i n : ℕ) → i < entries n → entry_place i + 40 ≤ used_tree n
unfolding entry_place used_tree
entry_inside i n h = omega arith

-- an entry's hash and length out of its 40 bytes
pub entry_hash_lem : (xs : List ℕ) (i : ℕ) (e : Entry) → Proper e → part xs (entry_place i) 40 ≡ entry_bytes e → stored_hash xs i ≡ e.hash
unfolding stored_hash entry_bytes
entry_hash_lem xs i e p h =
    ap (λ (a : ℕ). part xs a 32) (sym (add-zero (entry_place i))) ∙ sym (part_part xs (entry_place i) 40 0 32 (omega arith))
    ∙ ap (λ (l : List ℕ). part l 0 32) h ∙ part_front e.hash (be 8 e.size) 32 p.long

pub entry_size_lem : (xs : List ℕ) (i : ℕ) (e : Entry) → Proper e → part xs (entry_place i) 40 ≡ entry_bytes e → stored_size xs i ≡ e.size
unfolding stored_size entry_bytes part
entry_size_lem xs i e p h =
    ap number (sym (part_part xs (entry_place i) 40 32 8 (omega arith)) ∙ ap (λ (l : List ℕ). part l 32 8) h
    ∙ part_behind e.hash (be 8 e.size) 32 0 8 p.long ∙ take_all 8 (be 8 e.size) (omega (arith, length_be 8 e.size)))
    ∙ number_be 8 e.size p.fits

-- the stored message, by coordinates
pub stored_leaf_lem : (t content : List ℕ) (k : ℕ) → stored_message t content (index zero k) ≡ leaf_message (stored_chunk t content k)
unfolding stored_message
stored_leaf_lem t content k =
    let i : ℕ = index zero k in
    ap (λ (x : ℕ). by_depth_lem x (leaf_message (stored_chunk t content (block i)))
    (parent_message (stored_size t (left_child i) + stored_size t (right_child i)) (stored_hash t (left_child i)) (stored_hash t (right_child i))))
    (depth_index zero k)
    ∙ ap (λ (b : ℕ). leaf_message (stored_chunk t content b)) (block_index zero k)

pub stored_parent : (t content : List ℕ) (d k : ℕ) → stored_message t content (index (suc d) k)
    ≡ parent_message (stored_size t (index d (2 * k)) + stored_size t (index d (2 * k + 1))) (stored_hash t (index d (2 * k))) (stored_hash t (index d (2 * k + 1)))
unfolding stored_message
stored_parent t content d k =
    let i : ℕ = index (suc d) k in
    ap (λ (x : ℕ). by_depth_lem x (leaf_message (stored_chunk t content (block i)))
    (parent_message (stored_size t (left_child i) + stored_size t (right_child i)) (stored_hash t (left_child i)) (stored_hash t (right_child i))))
    (depth_index (suc d) k)
    ∙ ap₂ (λ (a b : ℕ). parent_message (stored_size t a + stored_size t b) (stored_hash t a) (stored_hash t b)) (left_child_index d k) (right_child_index d k)

pub overs : {a b x y : ℕ} {l m u v : List ℕ} → a ≡ x → b ≡ y → l ≡ u → m ≡ v → parent_message (a + b) l m ≡ parent_message (x + y) u v
overs p q s t = λ i. parent_message (p i + q i) (s i) (t i)

module _ (F : List ℕ → List ℕ) (hf : HashFunction F) (ss : List Slot) (w : Within ss) where
  pub tree_image_length : length (tree_image F ss) ≡ used_tree (length ss)
  unfolding tree_image tree_entries used_tree
  tree_image_length =
      length-append tree_header (tree_entries F (leaves F ss))
      ∙ ap₂ ◌+◌ tree_header_length
      (length_joined (λ i. entry_bytes (entry_at F (leaves F ss) i)) 40 (entry_length F hf ss w) 0 (entries (length (leaves F ss)))
      ∙ mul_comm (entries (length (leaves F ss))) 40 ∙ ap (λ (n : ℕ). 40 * entries n) (leaves_length F ss))

  pub image_entry : (i : ℕ) → i < entries (length ss) → part (tree_image F ss) (entry_place i) 40 ≡ entry_bytes (entry_at F (leaves F ss) i)
  unfolding tree_image tree_entries entry_place
  image_entry i h =
      part_behind tree_header (tree_entries F (leaves F ss)) 32 (40 * i) 40 tree_header_length
      ∙ ap (λ (a : ℕ). part (tree_entries F (leaves F ss)) a 40) (mul_comm 40 i)
      ∙ part_joined (λ i. entry_bytes (entry_at F (leaves F ss) i)) 40 (entry_length F hf ss w) 0 (entries (length (leaves F ss))) i
      (subst (λ (n : ℕ). i < entries n) (sym (leaves_length F ss)) h)
      ∙ ap (λ (j : ℕ). entry_bytes (entry_at F (leaves F ss) j)) (zero-add i)

  module _ (r : Register) (b : Belongs F r ss) where
    pub stored_entry_lem : (i : ℕ) → i < entries r.n → part r.tree (entry_place i) 40 ≡ entry_bytes (entry_at F (leaves F ss) i)
    stored_entry_lem i h =
        sym (part_take r.tree (used_tree r.n) (entry_place i) 40 (entry_inside i r.n h))
        ∙ ap (λ (l : List ℕ). part l (entry_place i) 40) b.tree
        ∙ image_entry i (subst (λ (n : ℕ). i < entries n) b.count h)

    pub stored_hash_lem : (i : ℕ) → i < entries r.n → stored_hash r.tree i ≡ (entry_at F (leaves F ss) i).hash
    stored_hash_lem i h = entry_hash_lem r.tree i (entry_at F (leaves F ss) i) (entry_at_proper F hf ss w i) (stored_entry_lem i h)

    pub stored_size_lem : (i : ℕ) → i < entries r.n → stored_size r.tree i ≡ (entry_at F (leaves F ss) i).size
    stored_size_lem i h = entry_size_lem r.tree i (entry_at F (leaves F ss) i) (entry_at_proper F hf ss w i) (stored_entry_lem i h)

    -- at a filled index they are the node's
    as_node : (i : ℕ) → filled r.n i ≡ true → entry_at F (leaves F ss) i ≡ node_at F (leaves F ss) i
    as_node i h = entry_at_filled F (leaves F ss) i (ap (λ (n : ℕ). filled n i) (leaves_length F ss ∙ sym b.count) ∙ h)

    pub stored_node_hash : (i : ℕ) → filled r.n i ≡ true → stored_hash r.tree i ≡ (node_at F (leaves F ss) i).hash
    stored_node_hash i h = stored_hash_lem i (filled_below r.n i h) ∙ ap (λ (e : Entry). e.hash) (as_node i h)

    pub stored_node_size : (i : ℕ) → filled r.n i ≡ true → stored_size r.tree i ≡ (node_at F (leaves F ss) i).size
    stored_node_size i h = stored_size_lem i (filled_below r.n i h) ∙ ap (λ (e : Entry). e.size) (as_node i h)

    -- by coordinates, a length is that of the chunks of the block
    pub stored_span : (d k : ℕ) → (k + 1) * 2 ^ d ≤ r.n → stored_size r.tree (index d k) ≡ span (contents ss) (k * 2 ^ d) (2 ^ d)
    stored_span d k h =
        stored_node_size (index d k) (end_filled r.n d k h) ∙ ap (λ (e : Entry). e.size) (node_at_index F (leaves F ss) d k) ∙ node_size F ss d k

    pub stored_leaf_size : (k : ℕ) → k < r.n → stored_size r.tree (2 * k) ≡ length (get_or (contents ss) k [])
    unfolding index
    stored_leaf_size k h = stored_span 0 k (omega (arith, mul-one (k + 1))) ∙ ap (λ (a : ℕ). span (contents ss) a 1) (mul-one k) ∙ span_one (contents ss) k

    -- "a leaf starts at the sum of the leaf lengths before it"
    pub stored_start_lem : (k : ℕ) → k ≤ r.n → stored_start r.tree k ≡ span (contents ss) 0 k
    unfolding stored_start span
    stored_start_lem k h =
        ap total (run_ext (λ j. stored_size r.tree (2 * j)) (λ j. length (get_or (contents ss) j [])) 0 k (λ j p q. stored_leaf_size j (omega arith)))

    pub stored_chunk_lem : (k : ℕ) → k < r.n → stored_chunk r.tree r.content k ≡ get_or (contents ss) k []
    unfolding stored_chunk data_image
    stored_chunk_lem k h =
        let l : k < length (contents ss) = subst (λ (n : ℕ). k < n) (b.count ∙ sym (contents_length ss)) h in
        ap₂ (part r.content) (stored_start_lem k (omega arith)) (stored_leaf_size k h)
        ∙ sym (part_take r.content r.size (span (contents ss) 0 k) (length (get_or (contents ss) k []))
        (subst (λ (t : ℕ). span (contents ss) 0 k + length (get_or (contents ss) k []) ≤ t) (sym b.total) (chunk_inside (contents ss) k l)))
        ∙ ap (λ (l : List ℕ). part l (span (contents ss) 0 k) (length (get_or (contents ss) k []))) b.content ∙ part_chunk (contents ss) k l

    pub size_at_lem : (d k : ℕ) → filled r.n (index d k) ≡ true → stored_size r.tree (index d k) ≡ (node F (leaves F ss) d k).size
    size_at_lem d k h = stored_node_size (index d k) h ∙ ap (λ (e : Entry). e.size) (node_at_index F (leaves F ss) d k)

    pub hash_at : (d k : ℕ) → filled r.n (index d k) ≡ true → stored_hash r.tree (index d k) ≡ (node F (leaves F ss) d k).hash
    hash_at d k h = stored_node_hash (index d k) h ∙ ap (λ (e : Entry). e.hash) (node_at_index F (leaves F ss) d k)

    pub stored_message_lem : (i : ℕ) → filled r.n i ≡ true → stored_message r.tree r.content i ≡ message_for F ss i
    stored_message_lem = by_coordinates (λ i. filled r.n i ≡ true → stored_message r.tree r.content i ≡ message_for F ss i) go
      where
        go : (d k : ℕ) → filled r.n (index d k) ≡ true → stored_message r.tree r.content (index d k) ≡ message_for F ss (index d k)
        go zero k h =
            stored_leaf_lem r.tree r.content k
            ∙ ap leaf_message (stored_chunk_lem k (omega (arith, filled_end r.n zero k h, mul-one (k + 1)))) ∙ sym (message_leaf F ss k)
        go (suc d) k h =
            let f : filled r.n (index d (2 * k)) ≡ true = filled_left r.n d k h in
            let g : filled r.n (index d (2 * k + 1)) ≡ true = filled_right r.n d k h in
            stored_parent r.tree r.content d k
            ∙ overs (size_at_lem d (2 * k) f) (size_at_lem d (2 * k + 1) g) (hash_at d (2 * k) f) (hash_at d (2 * k + 1) g)
            ∙ sym (message_parent F ss d k)

    pub stored_root_message_lem : stored_root_message r.tree r.n ≡ root_message_for F ss
    unfolding stored_root_message root_message_for root_message_of
    stored_root_message_lem =
        ap root_message (map_ext (λ i. root_item (stored_hash r.tree i) i (stored_size r.tree i)) (λ i. root_item (node_at F (leaves F ss) i).hash i (node_at F (leaves F ss) i).size) (roots r.n)
        (λ j l. ap₂ (λ (h : List ℕ) (z : ℕ). root_item h (get_or (roots r.n) j 0) z) (stored_node_hash (get_or (roots r.n) j 0) (root_filled r.n j l))
        (stored_node_size (get_or (roots r.n) j 0) (root_filled r.n j l)))
        ∙ ap (λ (n : ℕ). map (λ i. root_item (node_at F (leaves F ss) i).hash i (node_at F (leaves F ss) i).size) (roots n)) (b.count ∙ sym (leaves_length F ss)))

    -- "The stored root lengths .. add up to the data size"
    pub stored_total : total (stored_root_sizes r.tree r.n) ≡ r.size
    unfolding stored_root_sizes
    stored_total =
        cover (contents ss) (stored_size r.tree) r.n stored_span (subst (λ (n : ℕ). n ≤ 2 ^ 20) (sym b.count) w.count) ∙ ap (span (contents ss) 0)
        (b.count ∙ sym (contents_length ss)) ∙ span_all (contents ss) ∙ sym b.total
