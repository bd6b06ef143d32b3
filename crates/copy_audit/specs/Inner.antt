-- What the inner functions of a copy's audit require: an entry, a chunk or a parent of n chunks whose entries and bits lie within the files.
use Rattle.std.specs.Prelude.{ℕ, ◌+◌, ◌/◌, ◌≤◌, ◌<◌, List, length}
use Rattle.tree_index.specs.Tree.{left_child, right_child, entries}
use Rattle.bitfield.specs.Append.{bits_place}
use Rattle.audit.specs.BitfieldEntries.{BitsIn}
use Rattle.audit.specs.TreeWalk.{FilesIn, AtParent}

-- an entry that n chunks have, whose bits lie within the bitfield file
pub record AtNode (bits : List ℕ) (n i : ℕ) : Type 0 where
  pub field : BitsIn bits n
  pub entry : i < entries n

-- one of n chunks
pub record AtChunk (tree bits content : List ℕ) (n size k : ℕ) : Type 0 where
  pub files : FilesIn tree bits content n size
  pub chunk : k < n

-- a parent and its children, all within the files
pub record AtFamily (tree bits : List ℕ) (i : ℕ) : Type 0 where
  pub entries : AtParent tree i
  pub left : bits_place (left_child i / 16384 + 1) ≤ length bits
  pub right : bits_place (right_child i / 16384 + 1) ≤ length bits
