-- The nodes of a register's chunks: the lengths that they hold, hashes of 32 bytes, and the message that each one hashes.
-- Assumes nothing.
use Prim.Native.Nat.{ℕ, zero, suc, ◌+◌, ◌*◌, ◌^◌, ◌≤◌, ◌<◌}
use mathlib.Core.Path.{◌≡◌, refl, sym, ap, ap₂, ◌∙◌, subst}
use mathlib.Core.Bool.{Bool, true, false, cond}
use mathlib.Core.List.{List, [], ◌∷◌, ◌++◌}
use native.Mathlib.Nat.{mul-one}
use native.Mathlib.Omega.{arith}
use lib.ListN.{length, get_or, length-append, length-replicate}
use Rattle.byte_strings.specs.Lists.{Bytes}
use Rattle.byte_strings.specs.Numbers.{be}
use Rattle.byte_strings.proofs.Lists.{bytes_append, bytes_zeros}
use Rattle.byte_strings.proofs.Numbers.{length_be, bytes_be}
use Rattle.tree_index.specs.Tree.{index, block, filled, left_child, right_child}
use Rattle.tree_index.proofs.Index.{depth_index, block_index, by_coordinates, left_child_index, right_child_index}
use Rattle.tree_index.proofs.Filled.{block_end, filled_end, end_filled, filled_left, filled_right}
use Rattle.tree_index.proofs.Cover.{size_at, size_run}
use Rattle.file_format.specs.Messages.{HashFunction, leaf_message, parent_message}
use Rattle.file_format.specs.Entries.{Entry, hole, entry_bytes, leaf, parent_of, node, node_at, entry_at}
use Rattle.file_format.specs.Images.{leaves, message_for}
use Rattle.file_format.specs.Slots.{Slot, held, released, slot_bytes, slot_entry, contents, held_in, Handed, Within}
use Rattle.file_format.proofs.Spans.{span, span_le}
use Rattle.file_format.proofs.Slots.{slot_at, contents_at, leaves_length, leaf_at, leaf_size, leaf_held}

-- ---- messages are byte strings

pub bytes_cons : (x : ℕ) (xs : List ℕ) → x < 256 → Bytes xs → Bytes (x ∷ xs)
bytes_cons x xs h p zero = h
bytes_cons x xs h p (suc i) = p i

pub leaf_message_bytes : (c : List ℕ) → Bytes c → Bytes (leaf_message c)
unfolding leaf_message
leaf_message_bytes c p = bytes_cons 0 (be 8 (length c) ++ c) (omega arith) (bytes_append (be 8 (length c)) c (bytes_be 8 (length c)) p)

pub parent_message_bytes : (sum : ℕ) (l r : List ℕ) → Bytes l → Bytes r → Bytes (parent_message sum l r)
unfolding parent_message
parent_message_bytes sum l r p q =
    bytes_cons 1 (be 8 sum ++ (l ++ r)) (omega arith) (bytes_append (be 8 sum) (l ++ r) (bytes_be 8 sum) (bytes_append l r p q))

-- ---- entries that a file can hold

-- a hash of 32 bytes, and a length that fits 8
pub record Proper (e : Entry) : Type 0 where
  pub long : length e.hash ≡ 32
  pub bytes : Bytes e.hash
  pub fits : e.size < 256 ^ 8

pub hole_proper : Proper hole
unfolding hole
hole_proper = record { long = length-replicate {A = ℕ} 32 0; bytes = bytes_zeros 32; fits = omega arith }

pub entry_bytes_length : (e : Entry) → length e.hash ≡ 32 → length (entry_bytes e) ≡ 40
unfolding entry_bytes
entry_bytes_length e h = length-append e.hash (be 8 e.size) ∙ ap₂ ◌+◌ h (length_be 8 e.size)

-- the message of two children
abbrev pub over : Entry → Entry → List ℕ
over l r = parent_message (l.size + r.size) l.hash r.hash

over_bytes : (l r : Entry) → Proper l → Proper r → Bytes (over l r)
over_bytes l r p q = parent_message_bytes (l.size + r.size) l.hash r.hash p.bytes q.bytes

-- ---- coordinates

-- what a node's depth decides
abbrev pub by_depth_lem : {A : Type 0} → ℕ → A → A → A
by_depth_lem d a b = elim d [ zero ↦ a | suc e ↦ b ]

module _ (F : List ℕ → List ℕ) where
  pub node_at_index : (es : List Entry) (d k : ℕ) → node_at F es (index d k) ≡ node F es d k
  unfolding node_at
  node_at_index es d k = ap₂ (node F es) (depth_index d k) (block_index d k)

  pub entry_at_filled : (es : List Entry) (i : ℕ) → filled (length es) i ≡ true → entry_at F es i ≡ node_at F es i
  unfolding entry_at
  entry_at_filled es i h = ap (λ (b : Bool). cond b (node_at F es i) hole) h

  pub entry_at_hole : (es : List Entry) (i : ℕ) → filled (length es) i ≡ false → entry_at F es i ≡ hole
  unfolding entry_at
  entry_at_hole es i h = ap (λ (b : Bool). cond b (node_at F es i) hole) h

  -- ---- lengths

  node_size_at : (ss : List Slot) (d k : ℕ) → (node F (leaves F ss) d k).size ≡ size_at (λ j. length (get_or (contents ss) j [])) d k
  unfolding node parent_of size_at
  node_size_at ss zero k = leaf_size F ss k
  node_size_at ss (suc d) k = ap₂ ◌+◌ (node_size_at ss d (2 * k)) (node_size_at ss d (2 * k + 1))

  -- a node's length is that of the chunks of its block
  pub node_size : (ss : List Slot) (d k : ℕ) → (node F (leaves F ss) d k).size ≡ span (contents ss) (k * 2 ^ d) (2 ^ d)
  unfolding span
  node_size ss d k = node_size_at ss d k ∙ size_run (λ j. length (get_or (contents ss) j [])) d k

  pub node_size_le : (ss : List Slot) → Within ss → (d k : ℕ) → (k + 1) * 2 ^ d ≤ length ss → (node F (leaves F ss) d k).size ≤ 68719476736
  node_size_le ss w d k h =
      let s : span (contents ss) (k * 2 ^ d) (2 ^ d) ≤ 2 ^ d * 65536 = span_le (contents ss) 65536 (k * 2 ^ d) (2 ^ d) w.short in
      omega (arith, node_size ss d k, block_end d k, w.count)

  -- ---- the message that a node hashes, where all chunks are held

  abbrev pub AllHeld : List Slot → Type 0
  AllHeld ss = (k : ℕ) → k < length ss → held_in ss k ≡ true

  pub message_leaf : (ss : List Slot) (k : ℕ) → message_for F ss (index zero k) ≡ leaf_message (get_or (contents ss) k [])
  unfolding message_for
  message_leaf ss k =
      ap (λ (x : ℕ). by_depth_lem x (leaf_message (get_or (contents ss) (block (index zero k)) []))
      (over (node_at F (leaves F ss) (left_child (index zero k))) (node_at F (leaves F ss) (right_child (index zero k)))))
      (depth_index zero k)
      ∙ ap (λ (b : ℕ). leaf_message (get_or (contents ss) b [])) (block_index zero k)

  pub message_parent : (ss : List Slot) (d k : ℕ) → message_for F ss (index (suc d) k) ≡ over (node F (leaves F ss) d (2 * k)) (node F (leaves F ss) d (2 * k + 1))
  unfolding message_for
  message_parent ss d k =
      ap (λ (x : ℕ). by_depth_lem x (leaf_message (get_or (contents ss) (block (index (suc d) k)) []))
      (over (node_at F (leaves F ss) (left_child (index (suc d) k))) (node_at F (leaves F ss) (right_child (index (suc d) k)))))
      (depth_index (suc d) k)
      ∙ ap₂ over
      (ap (node_at F (leaves F ss)) (left_child_index d k) ∙ node_at_index (leaves F ss) d (2 * k))
      (ap (node_at F (leaves F ss)) (right_child_index d k) ∙ node_at_index (leaves F ss) d (2 * k + 1))

  pub node_hash_lem : (ss : List Slot) → AllHeld ss → (d k : ℕ) → (k + 1) * 2 ^ d ≤ length ss → (node F (leaves F ss) d k).hash ≡ F (message_for F ss (index d k))
  unfolding node parent_of leaf
  node_hash_lem ss a zero k h =
      let l : k < length ss = omega (arith, mul-one (k + 1)) in
      ap (λ (e : Entry). e.hash) (leaf_held F ss k l (a k l)) ∙ ap F (sym (message_leaf ss k))
  node_hash_lem ss a (suc d) k h = ap F (sym (message_parent ss d k))

  -- "The message at a filled tree index is the byte string that the leaf or parent rule above hashes there"
  pub node_at_hash : (ss : List Slot) → AllHeld ss → (i : ℕ) → filled (length ss) i ≡ true → (node_at F (leaves F ss) i).hash ≡ F (message_for F ss i)
  node_at_hash ss a =
      by_coordinates (λ i. filled (length ss) i ≡ true → (node_at F (leaves F ss) i).hash ≡ F (message_for F ss i))
      (λ d k h. ap (λ (e : Entry). e.hash) (node_at_index (leaves F ss) d k) ∙ node_hash_lem ss a d k (filled_end (length ss) d k h))

  -- ---- the nodes can be held by a file

  module _ (hf : HashFunction F) (ss : List Slot) (w : Within ss) where
    hashed : (m : List ℕ) → Bytes m → (z : ℕ) → z ≤ 68719476736 → Proper (record { hash = F m; size = z })
    hashed m p z h = record { long = hf.size m p; bytes = hf.byte m p; fits = omega arith }

    slot_proper : (s : Slot) → Handed s → Bytes (slot_bytes s) → length (slot_bytes s) ≤ 65536 → Proper (slot_entry F s)
    unfolding leaf
    slot_proper (held c) h p l = hashed (leaf_message c) (leaf_message_bytes c p) (length c) (omega arith)
    slot_proper (released e) h p l = record { long = h.0; bytes = h.1; fits = omega (arith, length-replicate {A = ℕ} e.size 0) }

    pub node_proper : (d k : ℕ) → (k + 1) * 2 ^ d ≤ length ss → Proper (node F (leaves F ss) d k)
    unfolding node parent_of leaf
    node_proper zero k h =
        subst Proper (sym (leaf_at F ss k (omega (arith, mul-one (k + 1)))))
        (slot_proper (slot_at ss k) (w.handed k) (subst Bytes (contents_at ss k) (w.bytes k)) (subst (λ (c : List ℕ). length c ≤ 65536) (contents_at ss k) (w.short k)))
    node_proper (suc d) k h =
        let f : filled (length ss) (index (suc d) k) ≡ true = end_filled (length ss) (suc d) k h in
        hashed (over (node F (leaves F ss) d (2 * k)) (node F (leaves F ss) d (2 * k + 1)))
        (over_bytes (node F (leaves F ss) d (2 * k)) (node F (leaves F ss) d (2 * k + 1))
        (node_proper d (2 * k) (filled_end (length ss) d (2 * k) (filled_left (length ss) d k f)))
        (node_proper d (2 * k + 1) (filled_end (length ss) d (2 * k + 1) (filled_right (length ss) d k f))))
        (node F (leaves F ss) (suc d) k).size (node_size_le ss w (suc d) k h)

    pub node_at_proper : (i : ℕ) → filled (length ss) i ≡ true → Proper (node_at F (leaves F ss) i)
    node_at_proper =
        by_coordinates (λ i. filled (length ss) i ≡ true → Proper (node_at F (leaves F ss) i))
        (λ d k h. subst Proper (sym (node_at_index (leaves F ss) d k)) (node_proper d k (filled_end (length ss) d k h)))

    pub entry_at_proper : (i : ℕ) → Proper (entry_at F (leaves F ss) i)
    unfolding entry_at
    entry_at_proper i = go (filled (length (leaves F ss)) i) refl
      where
        go : (b : Bool) → filled (length (leaves F ss)) i ≡ b → Proper (cond b (node_at F (leaves F ss) i) hole)
        go true e = node_at_proper i (ap (λ (m : ℕ). filled m i) (sym (leaves_length F ss)) ∙ e)
        go false e = hole_proper

    pub entry_length : (i : ℕ) → length (entry_bytes (entry_at F (leaves F ss) i)) ≡ 40
    entry_length i = entry_bytes_length (entry_at F (leaves F ss) i) (entry_at_proper i).long
