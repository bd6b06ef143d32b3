-- What the inner functions require and ensure.
use Rattle.std.specs.Prelude.{ℕ, zero, suc, ◌+◌, ◌-◌, ◌/◌, ◌^◌, ◌≤◌, ◌<◌, ◌≡◌, List, length}
use Rattle.byte_strings.specs.Lists.{put, total}
use Rattle.tree_index.specs.Tree.{index, completed, filled_by}
use Rattle.bitfield.specs.Append.{appended}
use Rattle.blake2b.specs.Hash.{node_hash}
use Rattle.file_format.specs.Headers.{tree_header, signatures_header, bitfield_header}
use Rattle.file_format.specs.Sizes.{most_chunks, used_tree, used_bitfield}
use Rattle.file_format.specs.Entries.{Entry, parent_of}
use Rattle.file_format.specs.Stored.{stored_size, stored_root_sizes, stored_root_message}
use Rattle.writing.specs.Append.{stored_entry, sibling, with_hole, with_entries, climb, appended_tree}
use Rattle.writing.specs.declared.appending.Node.{Node}

-- ---- a start

-- the tree, the signatures and the bitfield before, and the same three after
pub record HeadersPut (t g b t' g' b' : List ℕ) : Type 0 where
  pub tree : t' ≡ put t 0 tree_header
  pub signatures : g' ≡ put g 0 signatures_header
  pub bitfield : b' ≡ put b 0 bitfield_header

-- ---- an append

-- the node of the 2^d chunks that end with the chunk n
unfoldable pub place : ℕ → ℕ → ℕ
place n d = index d ((n + 1) / 2 ^ d - 1)

-- what a node by value holds
abbrev pub entry_of : Node → Entry
entry_of e = record { hash = e.hash; size = e.size }

-- the entry that the append makes at the depth d, over the leaf e
unfoldable pub made : (List ℕ → List ℕ) → List ℕ → ℕ → Entry → ℕ → Entry
made F tree n e zero = e
made F tree n e (suc d) = parent_of F (stored_entry tree (sibling n d)) (made F tree n e d)

-- the tree file with the leaf e of the chunk n: the new hole, if any, the leaf, and every parent that it completes
unfoldable pub with_leaf : List ℕ → ℕ → Entry → List ℕ
with_leaf tree n e = with_entries (with_hole tree n) (filled_by n) (climb node_hash tree n 0 (completed n) e)

-- the chunk n completes a node at the depth d, and the tree file has room for the entries of n + 1 chunks
pub record NodeFits (tree : List ℕ) (n d : ℕ) : Type 0 where
  pub few : n < most_chunks
  pub depth : d ≤ completed n
  pub room : used_tree (n + 1) ≤ length tree

-- it completes one at the depth above too, and the length of that one fits
pub record AboveFits (tree : List ℕ) (n d size : ℕ) : Type 0 where
  pub few : n < most_chunks
  pub depth : d < completed n
  pub room : used_tree (n + 1) ≤ length tree
  pub sum : stored_size tree (sibling n d) + size < 2 ^ 64

-- the lengths of the stored roots and of a leaf fit together
pub record FilledFits (tree : List ℕ) (n size : ℕ) : Type 0 where
  pub few : n < most_chunks
  pub room : used_tree (n + 1) ≤ length tree
  pub sum : total (stored_root_sizes tree n) + size < 2 ^ 64

-- what the checks of an append found of the tree t, the bitfield b and the data c
pub record StoreFits (t b c : List ℕ) (n size : ℕ) (chunk : List ℕ) : Type 0 where
  pub few : n < most_chunks
  pub tree : used_tree (n + 1) ≤ length t
  pub bitfield : used_bitfield (n + 1) ≤ length b
  pub content : size + length chunk ≤ length c
  pub sum : total (stored_root_sizes t n) ≡ size

-- what it leaves of the three then, and the root hash h that it answers
pub record StorePost (t b c : List ℕ) (n size : ℕ) (chunk h t' b' c' : List ℕ) : Type 0 where
  pub tree : t' ≡ appended_tree node_hash t n chunk
  pub bitfield : b' ≡ appended b n
  pub content : c' ≡ put c size chunk
  pub root : h ≡ node_hash (stored_root_message (appended_tree node_hash t n chunk) (n + 1))
