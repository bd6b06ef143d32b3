-- What the inner functions of the audit require: where a walk over the tree entries from the left has come to.
use Rattle.std.specs.Prelude.{ℕ, ◌+◌, ◌*◌, ◌/◌, ◌≤◌, ◌<◌, ◌≡◌, List, length}
use Rattle.tree_index.specs.Tree.{depth, left_child, right_child, entries}
use Rattle.file_format.specs.Stored.{stored_start}
use Rattle.file_format.specs.Inner.{EntryIn, RootsIn}
use Rattle.checks.specs.Capped.{capped}
use Rattle.audit.specs.BitfieldEntries.{BitsIn}

-- how many leaves stand before the tree index i
abbrev pub leaves_before : ℕ → ℕ
leaves_before i = (i + 1) / 2

-- what the checks 2 to 6 give of the lent bytes: they hold the files of n chunks and of a data size
pub record FilesIn (tree bits content : List ℕ) (n size : ℕ) : Type 0 where
  pub nodes : RootsIn tree n
  pub field : BitsIn bits n
  pub bytes : size ≤ length content

-- at the entry i the next leaf starts at `start`; leaf lengths may add up to more than fits
pub record Started (tree : List ℕ) (i start : ℕ) : Type 0 where
  pub entry : EntryIn tree i
  pub here : start ≡ capped (stored_start tree (leaves_before i))

-- an entry i that a register of n chunks has, and the start of the next leaf
pub record AtEntry (tree bits content : List ℕ) (n size i start : ℕ) : Type 0 where
  pub files : FilesIn tree bits content n size
  pub entry : i < entries n
  pub here : start ≡ capped (stored_start tree (leaves_before i))

-- a leaf that is to be judged
pub record AtLeaf (tree content : List ℕ) (size k : ℕ) : Type 0 where
  pub entry : EntryIn tree (2 * k)
  pub bytes : size ≤ length content

-- a parent and its children, all within the tree file
pub record AtParent (tree : List ℕ) (i : ℕ) : Type 0 where
  pub entry : EntryIn tree i
  pub parent : 0 < depth i
  pub left : EntryIn tree (left_child i)
  pub right : EntryIn tree (right_child i)
