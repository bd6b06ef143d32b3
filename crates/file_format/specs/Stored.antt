-- What the bytes of a register's files say, whatever they are.
use Rattle.std.specs.Prelude.{ℕ, zero, suc, ◌+◌, ◌*◌, List, map}
use Rattle.byte_strings.specs.Lists.{part, run, total}
use Rattle.byte_strings.specs.Numbers.{number}
use Rattle.tree_index.specs.Tree.{depth, block, left_child, right_child, roots}
use Rattle.file_format.specs.Sizes.{entry_place}
use Rattle.file_format.specs.Messages.{leaf_message, parent_message, root_item, root_message}

-- the hash and the length stored in the tree entry i
unfoldable pub stored_hash : List ℕ → ℕ → List ℕ
stored_hash tree i = part tree (entry_place i) 32

unfoldable pub stored_size : List ℕ → ℕ → ℕ
stored_size tree i = number (part tree (entry_place i + 32) 8)

-- the stored root lengths of the first n chunks, from the left
unfoldable pub stored_root_sizes : List ℕ → ℕ → List ℕ
stored_root_sizes tree n = map (stored_size tree) (roots n)

-- the root message that the stored roots of the first n chunks give
unfoldable pub stored_root_message : List ℕ → ℕ → List ℕ
stored_root_message tree n = root_message (map (λ i. root_item (stored_hash tree i) i (stored_size tree i)) (roots n))

-- "a leaf starts at the sum of the leaf lengths before it": where chunk k starts
unfoldable pub stored_start : List ℕ → ℕ → ℕ
stored_start tree k = total (run (λ j. stored_size tree (2 * j)) 0 k)

-- the chunk k, cut out of the data by the stored leaf lengths
unfoldable pub stored_chunk : List ℕ → List ℕ → ℕ → List ℕ
stored_chunk tree content k = part content (stored_start tree k) (stored_size tree (2 * k))

-- the message at tree index i, of the stored children or the stored chunk
unfoldable pub stored_message : List ℕ → List ℕ → ℕ → List ℕ
stored_message tree content i =
    elim (depth i) [
      | zero ↦ leaf_message (stored_chunk tree content (block i))
      | suc d ↦ parent_message (stored_size tree (left_child i) + stored_size tree (right_child i)) (stored_hash tree (left_child i))
          (stored_hash tree (right_child i))
    ]
