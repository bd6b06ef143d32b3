-- The four images of a register's chunks, held or released, and its root hash, with F for every leaf, parent and root message.
use Rattle.std.specs.Prelude.{ℕ, zero, suc, ◌+◌, Bool, List, [], ◌++◌, map, length, get_or}
use Rattle.byte_strings.specs.Lists.{joined, total}
use Rattle.tree_index.specs.Tree.{depth, block, left_child, right_child, filled}
use Rattle.file_format.specs.Headers.{tree_header, signatures_header, bitfield_header}
use Rattle.file_format.specs.Messages.{leaf_message, parent_message}
use Rattle.file_format.specs.Entries.{Entry, node_at, root_message_of, tree_entries}
use Rattle.file_format.specs.Slots.{Slot, slot_entry, contents}
use Rattle.bitfield.specs.Image.{entries_for}

-- the data size of byte strings: the sum of their lengths
unfoldable pub data_size : List (List ℕ) → ℕ
data_size cs = total (map length cs)

-- "The data file has no header": they stand one behind the other
unfoldable pub data_image : List (List ℕ) → List ℕ
data_image cs = joined cs

-- of n chunks, of which those are held and those tree entries known that two tests say
unfoldable pub bitfield_of : (ℕ → Bool) → (ℕ → Bool) → ℕ → List ℕ
bitfield_of held known n = bitfield_header ++ entries_for held known n

-- of a register, which knows every entry that is no hole
abbrev pub bitfield_image : (ℕ → Bool) → ℕ → List ℕ
bitfield_image held n = bitfield_of held (filled n) n

-- the signatures handed in, 64 bytes each
unfoldable pub signatures_image : List (List ℕ) → List ℕ
signatures_image sigs = signatures_header ++ joined sigs

module _ (F : List ℕ → List ℕ) where
  -- the leaf entries
  unfoldable pub leaves : List Slot → List Entry
  leaves ss = map (slot_entry F) ss

  unfoldable pub tree_image : List Slot → List ℕ
  tree_image ss = tree_header ++ tree_entries F (leaves ss)

  -- "the root message the one that the root rule hashes"
  unfoldable pub root_message_for : List Slot → List ℕ
  root_message_for ss = root_message_of F (leaves ss)

  unfoldable pub root_hash_for : List Slot → List ℕ
  root_hash_for ss = F (root_message_for ss)

  -- "The message at a filled tree index is the byte string that the leaf or parent rule above hashes there", at a leaf of the chunk, which is
  -- held
  unfoldable pub message_for : List Slot → ℕ → List ℕ
  message_for ss i =
      elim (depth i) [
        | zero ↦ leaf_message (get_or (contents ss) (block i) [])
        | suc d ↦ parent_message ((node_at F (leaves ss) (left_child i)).size + (node_at F (leaves ss) (right_child i)).size)
            (node_at F (leaves ss) (left_child i)).hash (node_at F (leaves ss) (right_child i)).hash
      ]
