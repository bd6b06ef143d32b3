-- What inner functions require: that the entries which they read or write lie within the tree file. The limits of a chunk
-- sequence, the record `Within`, are not here but in Slots.
use Rattle.std.specs.Prelude.{ℕ, ◌+◌, ◌≤◌, ◌<◌, List, length, get_or}
use Rattle.file_format.specs.Sizes.{most_chunks, entry_place, used_tree}

-- the entry i lies within a tree file, and is no index that a register could not have
pub record EntryIn (tree : List ℕ) (i : ℕ) : Type 0 where
  pub small : i < 4194304
  pub inside : entry_place i + 40 ≤ length tree

-- the same of the first k of the indexes is, of which there are 20 at the most
pub record EntriesIn (tree is : List ℕ) (k : ℕ) : Type 0 where
  pub few : k ≤ 20
  pub each : (j : ℕ) → j < k → EntryIn tree (get_or is j 0)

-- a tree file holds the entries of n chunks
pub record RootsIn (tree : List ℕ) (n : ℕ) : Type 0 where
  pub count : n ≤ most_chunks
  pub inside : used_tree n ≤ length tree
