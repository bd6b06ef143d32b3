-- An accepted register belongs to chunks: to those that its stored leaf lengths cut out of its data where its data bits say that they are held, and
-- elsewhere to its stored leaf entries.
-- Assumes nothing.
use Prim.Native.Nat.{ℕ, zero, suc, ◌+◌, ◌*◌, ◌≤◌, ◌<◌}
use mathlib.Core.Path.{◌≡◌, refl, sym, ap, ap₂, ◌∙◌, subst}
use mathlib.Core.Bool.{Bool, true, false, cond}
use mathlib.Core.List.{List, [], ◌∷◌, ◌++◌}
use native.Mathlib.Nat.{add-zero, zero-add, mul-one}
use native.Mathlib.Omega.{arith}
use borrow.Author.Tests.{ltb-true, ltb-false}
use lib.Dec.{ltb}
use lib.ListN.{length, get_or, take, get_or-append, get_or-eq_default}
use lib.Seq.{take-add, length-take-le, get_or-take, ext_get_or}
use Rattle.byte_strings.specs.Lists.{part, run, joined, total, Bytes, zeros}
use Rattle.byte_strings.specs.Numbers.{be}
use Rattle.byte_strings.proofs.Lists.{length_part, part_add, length_run, get_or_run, run_suc, run_ext, joined_run_suc, bytes_part}
use Rattle.byte_strings.proofs.Numbers.{be_number}
use Rattle.tree_index.specs.Tree.{index, filled, entries}
use Rattle.tree_index.proofs.Index.{by_coordinates}
use Rattle.tree_index.proofs.Filled.{filled_below, filled_end, end_filled, filled_left, filled_right}
use Rattle.bitfield.specs.Release.{stored_held}
use Rattle.file_format.specs.Headers.{bitfield_header}
use Rattle.file_format.specs.Sizes.{most_chunks, longest_chunk, entry_place, used_tree, used_bitfield}
use Rattle.file_format.specs.Messages.{HashFunction}
use Rattle.file_format.specs.Entries.{Entry, hole, entry_bytes, leaf, parent_of, node, node_at, entry_at}
use Rattle.file_format.specs.Slots.{Slot, held, released, is_held, slot_bytes, slot_entry, contents, held_in, Handed, Within}
use Rattle.file_format.specs.Images.{data_size, data_image, tree_image, leaves, bitfield_image, bitfield_of}
use Rattle.file_format.specs.Stored.{stored_root_sizes, stored_hash, stored_size, stored_start, stored_chunk}
use Rattle.file_format.specs.Belongs.{Register, Lent, Belongs}
use Rattle.file_format.proofs.Spans.{span, span_all, total_append, cover}
use Rattle.file_format.proofs.Slots.{slot_at, contents_length, contents_at, held_at, leaves_length, leaf_at}
use Rattle.file_format.proofs.Nodes.{node_size, node_at_index, entry_at_filled, entry_at_hole}
use Rattle.file_format.proofs.OfImage.{bitfield_header_length, bitfield_image_length, entry_inside, overs}
use Rattle.file_format.proofs.ToImage.{hole_zeros, tree_of_entries}
use Rattle.audit.specs.Audit.{held_bits, Accepted}
use Rattle.audit.proofs.Audited.{LeafRight, Audited, all_zero_lem, accepted_audited, leaf_says_lem, parent_says, hole_says}
use Rattle.audit.proofs.Accepts.{Signed, image_ext, held_bits_lem}
use Rattle.bitfield.specs.Image.{entries_of}

-- the chunks that the stored lengths cut out lie one behind the other, from the start of the data on
pub start_suc : (t : List ℕ) (k : ℕ) → stored_start t (suc k) ≡ stored_start t k + stored_size t (2 * k)
unfolding stored_start total
start_suc t k =
    ap total (run_suc (λ j. stored_size t (2 * j)) 0 k)
    ∙ total_append (run (λ j. stored_size t (2 * j)) 0 k) (stored_size t (2 * (0 + k)) ∷ [])
    ∙ ap (λ (z : ℕ). total (run (λ j. stored_size t (2 * j)) 0 k) + z) (add-zero (stored_size t (2 * (0 + k))) ∙ ap (λ (j : ℕ). stored_size t (2 * j)) (zero-add k))

pub cuts_joined : (t content : List ℕ) (k : ℕ) → joined (run (stored_chunk t content) 0 k) ≡ take (stored_start t k) content
unfolding run joined part stored_start stored_chunk total
cuts_joined t content zero = refl
cuts_joined t content (suc k) =
    joined_run_suc (stored_chunk t content) 0 k
    ∙ ap₂ ◌++◌ (cuts_joined t content k) (ap (stored_chunk t content) (zero-add k))
    ∙ sym (take-add (stored_start t k) (stored_size t (2 * k)) content) ∙ ap (λ (z : ℕ). take z content) (sym (start_suc t k))

-- an entry's 40 bytes out of the hash and the length that they store
pub entry_bytes_lem : (t : List ℕ) (i : ℕ) → Bytes t → entry_place i + 40 ≤ length t → part t (entry_place i) 40 ≡ stored_hash t i ++ be 8 (stored_size t i)
unfolding stored_hash stored_size
entry_bytes_lem t i p h =
    part_add t (entry_place i) 32 8
    ∙ ap (λ (x : List ℕ). part t (entry_place i) 32 ++ x)
    (sym (be_number 8 (part t (entry_place i + 32) 8) (bytes_part t (entry_place i + 32) 8 p) (length_part t (entry_place i + 32) 8 (omega arith))))

-- ---- the chunks of a register

-- a chunk that is held by its data bit, or its entry
abbrev pub pick : Bool → List ℕ → Entry → Slot
pick b c e = cond b (held c) (released e)

-- the stored leaf entry of chunk k
abbrev pub stored_leaf_of : Register → ℕ → Entry
stored_leaf_of r k = record { hash = stored_hash r.tree (2 * k); size = stored_size r.tree (2 * k) }

-- the chunk k as a register has it: the one that its stored leaf lengths cut out of its data where its stored data bit is 1, else its stored entry
unfoldable pub cut_at : Register → ℕ → Slot
cut_at r k = pick (stored_held r.bitfield k) (stored_chunk r.tree r.content k) (stored_leaf_of r k)

unfoldable pub cut : Register → List Slot
cut r = run (cut_at r) 0 r.n

module _ (r : Register) where
  pub cut_length : length (cut r) ≡ r.n
  unfolding cut
  cut_length = length_run (cut_at r) 0 r.n

  pub cut_at_lem : (k : ℕ) → k < r.n → slot_at (cut r) k ≡ cut_at r k
  unfolding cut
  cut_at_lem k h = get_or_run (cut_at r) 0 r.n k (held []) h ∙ ap (cut_at r) (zero-add k)

  cut_past : (k : ℕ) → r.n ≤ k → slot_at (cut r) k ≡ held []
  cut_past k h = get_or-eq_default (cut r) (held []) (omega (arith, cut_length))

  -- which of them are held
  pub cut_held : (k : ℕ) → k < r.n → stored_held r.bitfield k ≡ held_in (cut r) k
  unfolding cut_at
  cut_held k h =
      sym (held_at (cut r) k (subst (λ (n : ℕ). k < n) (sym cut_length) h) ∙ ap is_held (cut_at_lem k h) ∙ told (stored_held r.bitfield k))
    where
      told : (b : Bool) → is_held (pick b (stored_chunk r.tree r.content k) (stored_leaf_of r k)) ≡ b
      told true = refl
      told false = refl

  -- what holds of every slot below n, and of the empty chunk, holds of each
  each : (P : Slot → Type 0) → P (held []) → ((k : ℕ) → k < r.n → P (cut_at r k)) → (k : ℕ) → P (slot_at (cut r) k)
  each P e h k = split (ltb k r.n) refl
    where
      split : (b : Bool) → ltb k r.n ≡ b → P (slot_at (cut r) k)
      split true q = subst P (sym (cut_at_lem k (ltb-true k r.n q))) (h k (ltb-true k r.n q))
      split false q = subst P (sym (cut_past k (ltb-false k r.n q))) e

module _ (F : List ℕ → List ℕ) (hf : HashFunction F) (r : Register) (l : Lent r) (a : Audited F r) where
  leaf_there : (k : ℕ) → k < r.n → filled r.n (index zero k) ≡ true
  leaf_there k h = end_filled r.n zero k (omega (arith, mul-one (k + 1)))

  leaf_fact : (k : ℕ) → k < r.n → LeafRight F r.tree r.content r.size (stored_held r.bitfield k) k
  leaf_fact k h =
      leaf_says_lem F r.tree r.content r.bitfield r.n r.size k (leaf_there k h)
      (a.entry (index zero k) (filled_below r.n (index zero k) (leaf_there k h)))

  leaf_below : (k : ℕ) → k < r.n → 2 * k < entries r.n
  unfolding index
  leaf_below k h = filled_below r.n (index zero k) (leaf_there k h)

  -- ---- one chunk

  module _ (k : ℕ) (h : k < r.n) where
    abbrev chunk : List ℕ
    chunk = stored_chunk r.tree r.content k

    chunk_length_lem : length chunk ≡ stored_size r.tree (2 * k)
    unfolding stored_chunk
    chunk_length_lem =
        length_part r.content (stored_start r.tree k) (stored_size r.tree (2 * k)) (omega (arith, (leaf_fact k h).inside, a.checked.content))

    -- its bytes, held or released, are those that the stored lengths cut out
    slot_bytes_lem : slot_bytes (cut_at r k) ≡ chunk
    unfolding cut_at
    slot_bytes_lem = told (stored_held r.bitfield k) refl
      where
        told : (b : Bool) → stored_held r.bitfield k ≡ b → slot_bytes (pick b chunk (stored_leaf_of r k)) ≡ chunk
        told true e = refl
        told false e = sym (all_zero_lem chunk ((leaf_fact k h).cleared e) ∙ ap zeros chunk_length_lem)

    -- its leaf entry is the stored one
    slot_entry_lem : slot_entry F (cut_at r k) ≡ stored_leaf_of r k
    unfolding cut_at leaf
    slot_entry_lem = told (stored_held r.bitfield k) refl
      where
        told : (b : Bool) → stored_held r.bitfield k ≡ b → slot_entry F (pick b chunk (stored_leaf_of r k)) ≡ stored_leaf_of r k
        told true e = λ i. record { hash = sym ((leaf_fact k h).hash e) i; size = chunk_length_lem i }
        told false e = refl

    slot_handed : Handed (cut_at r k)
    unfolding cut_at stored_hash
    slot_handed = told (stored_held r.bitfield k)
      where
        told : (b : Bool) → Handed (pick b chunk (stored_leaf_of r k))
        told true = tt
        told false = (
          length_part r.tree (entry_place (2 * k)) 32 (omega (arith, entry_inside (2 * k) r.n (leaf_below k h), a.checked.tree)),
          bytes_part r.tree (entry_place (2 * k)) 32 l.tree,
        )

  -- ---- all of them

  contents_is : (k : ℕ) → k < r.n → get_or (contents (cut r)) k [] ≡ stored_chunk r.tree r.content k
  contents_is k h = contents_at (cut r) k ∙ ap slot_bytes (cut_at_lem r k h) ∙ slot_bytes_lem k h

  chunk_size : (k : ℕ) → k < r.n → stored_size r.tree (2 * k) ≡ length (get_or (contents (cut r)) k [])
  chunk_size k h = sym (ap length (contents_is k h) ∙ chunk_length_lem k h)

  contents_all : contents (cut r) ≡ run (stored_chunk r.tree r.content) 0 r.n
  contents_all =
      ext_get_or [] (contents (cut r)) (run (stored_chunk r.tree r.content) 0 r.n) (long ∙ sym (length_run (stored_chunk r.tree r.content) 0 r.n))
      (λ k h. let b : k < r.n = subst (λ (n : ℕ). k < n) long h in
      contents_is k b ∙ sym (get_or_run (stored_chunk r.tree r.content) 0 r.n k [] b ∙ ap (stored_chunk r.tree r.content) (zero-add k)))
    where
      long : length (contents (cut r)) ≡ r.n
      long = contents_length (cut r) ∙ cut_length r

  pub cut_within : Within (cut r)
  unfolding stored_chunk
  cut_within =
      record {
        count = subst (λ (n : ℕ). n ≤ most_chunks) (sym (cut_length r)) a.checked.count;
        short = λ k. subst (λ (c : List ℕ). length c ≤ longest_chunk) (sym (contents_at (cut r) k))
            (each r (λ s. length (slot_bytes s) ≤ longest_chunk) (omega arith)
            (λ j h. subst (λ (z : ℕ). z ≤ longest_chunk) (sym (ap length (slot_bytes_lem j h) ∙ chunk_length_lem j h)) (leaf_fact j h).short) k);
        bytes = λ k. subst Bytes (sym (contents_at (cut r) k))
            (each r (λ s. Bytes (slot_bytes s)) (λ i. omega arith)
            (λ j h. subst Bytes (sym (slot_bytes_lem j h)) (bytes_part r.content (stored_start r.tree j) (stored_size r.tree (2 * j)) l.content)) k);
        handed = each r Handed tt slot_handed;
      }

  -- ---- the entries

  record Same (d k : ℕ) : Type 0 where
    size : stored_size r.tree (index d k) ≡ (node F (leaves F (cut r)) d k).size
    hash : stored_hash r.tree (index d k) ≡ (node F (leaves F (cut r)) d k).hash

  node_same : (d k : ℕ) → filled r.n (index d k) ≡ true → Same d k
  unfolding node parent_of index
  node_same zero k h =
      let b : k < r.n = omega (arith, filled_end r.n zero k h, mul-one (k + 1)) in
      let e : get_or (leaves F (cut r)) k hole ≡ stored_leaf_of r k =
      leaf_at F (cut r) k (subst (λ (n : ℕ). k < n) (sym (cut_length r)) b) ∙ ap (slot_entry F) (cut_at_lem r k b) ∙ slot_entry_lem k b in
      record { size = sym (ap (λ (x : Entry). x.size) e); hash = sym (ap (λ (x : Entry). x.hash) e) }
  node_same (suc d) k h =
      let p = node_same d (2 * k) (filled_left r.n d k h) in
      let q = node_same d (2 * k + 1) (filled_right r.n d k h) in
      let s = parent_says F r.tree r.content r.bitfield r.n r.size d k h (a.entry (index (suc d) k) (filled_below r.n (index (suc d) k) h)) in
      record {
        size = s.sum ∙ ap₂ ◌+◌ p.size q.size;
        hash = s.hash ∙ ap F (overs p.size q.size p.hash q.hash);
      }

  entry_same : (i : ℕ) → i < entries r.n → part r.tree (entry_place i) 40 ≡ entry_bytes (entry_at F (leaves F (cut r)) i)
  unfolding entry_bytes
  entry_same i h = split (filled r.n i) refl
    where
      there : (b : Bool) → filled r.n i ≡ b → filled (length (leaves F (cut r))) i ≡ b
      there b e = ap (λ (n : ℕ). filled n i) (leaves_length F (cut r) ∙ cut_length r) ∙ e

      at : (d k : ℕ) → filled r.n (index d k) ≡ true
          → stored_hash r.tree (index d k) ++ be 8 (stored_size r.tree (index d k)) ≡ (node_at F (leaves F (cut r)) (index d k)).hash ++ be 8 (node_at F (leaves F (cut r)) (index d k)).size
      at d k g =
          ap₂ (λ (x : List ℕ) (z : ℕ). x ++ be 8 z) (node_same d k g).hash (node_same d k g).size
          ∙ sym (ap (λ (e : Entry). e.hash ++ be 8 e.size) (node_at_index F (leaves F (cut r)) d k))

      split : (b : Bool) → filled r.n i ≡ b → part r.tree (entry_place i) 40 ≡ entry_bytes (entry_at F (leaves F (cut r)) i)
      split true e =
          entry_bytes_lem r.tree i l.tree (omega (arith, entry_inside i r.n h, a.checked.tree))
          ∙ by_coordinates (λ j. filled r.n j ≡ true → stored_hash r.tree j ++ be 8 (stored_size r.tree j) ≡ (node_at F (leaves F (cut r)) j).hash ++ be 8
          (node_at F (leaves F (cut r)) j).size) at i e
          ∙ sym (ap entry_bytes (entry_at_filled F (leaves F (cut r)) i (there true e)))
      split false e =
          hole_says F r.tree r.content r.bitfield r.n r.size i e (a.entry i h)
          ∙ sym (ap entry_bytes (entry_at_hole F (leaves F (cut r)) i (there false e)) ∙ hole_zeros)

  tree_same : take (used_tree r.n) r.tree ≡ tree_image F (cut r)
  tree_same = tree_of_entries F (cut r) r.tree r.n (sym (cut_length r)) a.checked.tree_front_lem entry_same

  -- ---- the data

  size_same : r.size ≡ data_size (contents (cut r))
  unfolding stored_root_sizes
  size_same =
      sym a.checked.adds
      ∙ cover (contents (cut r)) (stored_size r.tree) r.n (λ d k h. (node_same d k (end_filled r.n d k h)).size ∙ node_size F (cut r) d k) a.checked.count
      ∙ ap (span (contents (cut r)) 0) (sym (contents_length (cut r) ∙ cut_length r)) ∙ span_all (contents (cut r))

  start_all : stored_start r.tree r.n ≡ data_size (contents (cut r))
  unfolding stored_start span
  start_all =
      ap total (run_ext (λ j. stored_size r.tree (2 * j)) (λ j. length (get_or (contents (cut r)) j [])) 0 r.n (λ j p q. chunk_size j (omega arith)))
      ∙ ap (span (contents (cut r)) 0) (sym (contents_length (cut r) ∙ cut_length r)) ∙ span_all (contents (cut r))

  content_same : take r.size r.content ≡ data_image (contents (cut r))
  unfolding data_image
  content_same =
      ap (λ (z : ℕ). take z r.content) (size_same ∙ sym start_all) ∙ sym (cuts_joined r.tree r.content r.n) ∙ ap joined (sym contents_all)

  -- ---- the bitfield

  abbrev own : ℕ → Bool
  own = held_bits r.bitfield r.n

  bitfield_same : take (used_bitfield r.n) r.bitfield ≡ bitfield_image (held_in (cut r)) r.n
  unfolding bitfield_of
  bitfield_same =
      ext_get_or 0 (take (used_bitfield r.n) r.bitfield) (bitfield_image own r.n) (long ∙ sym (bitfield_image_length own r.n))
      (λ i h. get_or-take (used_bitfield r.n) r.bitfield i 0 (subst (λ (z : ℕ). i < z) long h) ∙ split i (ltb i 32) refl (subst (λ (z : ℕ). i < z) long h))
      ∙ sym (image_ext (held_in (cut r)) own r.n (held_bits_lem r.bitfield (cut r) r.n (sym (cut_length r)) (cut_held r)))
    where
      long : length (take (used_bitfield r.n) r.bitfield) ≡ used_bitfield r.n
      long = length-take-le (used_bitfield r.n) r.bitfield a.checked.bitfield

      split : (i : ℕ) (b : Bool) → ltb i 32 ≡ b → i < used_bitfield r.n → get_or r.bitfield i 0 ≡ get_or (bitfield_image own r.n) i 0
      split i true e h =
          let s : i < 32 = ltb-true i 32 e in
          sym (get_or-take 32 r.bitfield i 0 s) ∙ ap (λ (x : List ℕ). get_or x i 0) a.checked.bitfield_front
          ∙ sym (get_or-append bitfield_header (entries_of own r.n) 0 i (subst (λ (z : ℕ). i < z) (sym bitfield_header_length) s))
      split i false e h = a.byte i (ltb-false i 32 e) h

  pub cut_belongs : Belongs F r (cut r)
  cut_belongs = record { count = sym (cut_length r); total = size_same; tree = tree_same; bitfield = bitfield_same; content = content_same }

  pub cut_signed : Signed r
  cut_signed = record { count = a.checked.signed; long = a.checked.signatures; front = a.checked.signatures_front }

pub accepted_belongs : (F : List ℕ → List ℕ) → HashFunction F → (r : Register) → Lent r → Accepted F r → Within (cut r) × Belongs F r (cut r) × Signed r
accepted_belongs F hf r l e =
    let a : Audited F r = accepted_audited F r e in
    (cut_within F hf r l a, cut_belongs F hf r l a, cut_signed F hf r l a)
