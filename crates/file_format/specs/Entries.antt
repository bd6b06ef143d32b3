-- The tree's nodes, over the list of the leaf entries.
use Rattle.std.specs.Prelude.{ℕ, zero, suc, ◌+◌, ◌*◌, cond, List, ◌++◌, map, length, get_or}
use Rattle.byte_strings.specs.Lists.{zeros, joined, run}
use Rattle.byte_strings.specs.Numbers.{be}
use Rattle.tree_index.specs.Tree.{depth, block, filled, roots, entries}
use Rattle.file_format.specs.Messages.{leaf_message, parent_message, root_item, root_message}

-- "each a 32-byte hash and an 8-byte length"
pub record Entry : Type 0 where
  pub hash : List ℕ
  pub size : ℕ

-- "a hole, 40 zero bytes"
unfoldable pub hole : Entry
hole = record { hash = zeros 32; size = 0 }

unfoldable pub entry_bytes : Entry → List ℕ
entry_bytes e = e.hash ++ be 8 e.size

module _ (F : List ℕ → List ℕ) where
  -- the leaf of a chunk
  unfoldable pub leaf : List ℕ → Entry
  leaf c = record { hash = F (leaf_message c); size = length c }

  -- the parent of two nodes, "stored with that sum"
  unfoldable pub parent_of : Entry → Entry → Entry
  parent_of l r =
      record { hash = F (parent_message (l.size + r.size) l.hash r.hash); size = l.size + r.size }

  -- the node of the block k of 2^d chunks, over the leaf entries es
  unfoldable pub node : List Entry → ℕ → ℕ → Entry
  node es zero k = get_or es k hole
  node es (suc d) k = parent_of (node es d (2 * k)) (node es d (2 * k + 1))

  -- the node at tree index i
  unfoldable pub node_at : List Entry → ℕ → Entry
  node_at es i = node es (depth i) (block i)

  -- the entry at tree index i: the node there where it is filled, else a hole
  unfoldable pub entry_at : List Entry → ℕ → Entry
  entry_at es i = cond (filled (length es) i) (node_at es i) hole

  -- the root message over the leaf entries es
  unfoldable pub root_message_of : List Entry → List ℕ
  root_message_of es = root_message (map (λ i. root_item (node_at es i).hash i (node_at es i).size) (roots (length es)))

  -- the tree file's entries, in order
  unfoldable pub tree_entries : List Entry → List ℕ
  tree_entries es = joined (run (λ i. entry_bytes (entry_at es i)) 0 (entries (length es)))
