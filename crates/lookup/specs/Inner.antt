-- The steps of a descent as the code takes them, and what its inner functions require. `partly` says that the files are a copy's.
use Rattle.std.specs.Prelude.{ℕ, ◌+◌, ◌*◌, ◌^◌, ◌/◌, ◌≤◌, ◌<◌, ◌≡◌, Bool, true, false, List, length}
use Rattle.byte_strings.specs.Lists.{total}
use Rattle.tree_index.specs.Tree.{depth, block, left_child, right_child, filled}
use Rattle.bitfield.specs.Append.{bits_place}
use Rattle.bitfield.specs.Known.{stored_known}
use Rattle.file_format.specs.Sizes.{most_chunks, used_tree, used_bitfield}
use Rattle.file_format.specs.Stored.{stored_size, stored_root_sizes}
use Rattle.file_format.specs.Inner.{RootsIn}
use Rattle.lookup.specs.Descent.{Ending, stopped, reached, unknown, always, chunk_within, byte_within, descend}
use Rattle.lookup.specs.declared.descent.Sought.{Sought}
use Rattle.lookup.specs.declared.descent.Sought.TheVariants.{Chunk, Byte}
use Rattle.lookup.specs.declared.descent.Ending.{Ending as CodeEnding}
use Rattle.lookup.specs.declared.descent.Ending.TheVariants.{Stopped, Reached, Unknown}
use Rattle.lookup.specs.declared.descent.Step.{Step}
use Rattle.lookup.specs.declared.descent.Step.TheVariants.{End, Down}

-- which test a descent makes for what is sought
abbrev pub within_of : Sought → ℕ → ℕ → ℕ → ℕ → Bool
within_of (Chunk c) = chunk_within c.0
within_of (Byte b) = byte_within b.0

-- the ending that each case stands for
abbrev pub ending_of : CodeEnding → Ending
ending_of (Stopped i) = stopped i.0
ending_of (Reached c start) = reached c.0 start.0
ending_of (Unknown i) = unknown i.0

-- which entries are known: in a copy those whose tree bit is 1, in a register all
abbrev pub known_if : Bool → List ℕ → ℕ → Bool
known_if true bits = stored_known bits
known_if false bits = always

-- in a copy the bit of an entry lies in the bitfield file
abbrev pub BitIn : Bool → List ℕ → ℕ → Type 0
BitIn partly bits i = partly ≡ true → bits_place (i / 16384 + 1) ≤ length bits

-- the bits of a node's children do
pub record ChildrenIn (partly : Bool) (bits : List ℕ) (i : ℕ) : Type 0 where
  pub small : i < 4194304
  pub left : 0 < depth i → BitIn partly bits (left_child i)
  pub right : 0 < depth i → BitIn partly bits (right_child i)

-- The files hold the entries of n chunks and, in a copy, their bits.
pub record FilesIn (partly : Bool) (tree bits : List ℕ) (n : ℕ) : Type 0 where
  pub roots : RootsIn tree n
  pub bitfield : partly ≡ true → used_bitfield n ≤ length bits

-- A descent may go on from tree index i, whose bytes begin at `start`: it is an entry of some count of chunks that the files hold, and its bytes' end fits.
pub record Standing (partly : Bool) (tree bits : List ℕ) (i start : ℕ) : Type 0 where
  pub n : ℕ
  pub files : FilesIn partly tree bits n
  pub entry : filled n i ≡ true
  pub fits : start + stored_size tree i < 2 ^ 64

-- A descent may visit the node at tree index i, whose bytes begin at `start`: the entries of all chunks up to the end of its block lie within
-- the tree file, and the offsets of its bytes fit.
pub record StandsAt (tree : List ℕ) (i start : ℕ) : Type 0 where
  pub count : (block i + 1) * 2 ^ depth i ≤ most_chunks
  pub inside : used_tree ((block i + 1) * 2 ^ depth i) ≤ length tree
  pub fits : start + stored_size tree i < 2 ^ 64

-- A search may begin among the roots of n chunks, and the sum of their lengths fits.
pub record Searched (partly : Bool) (tree bits : List ℕ) (n : ℕ) : Type 0 where
  pub files : FilesIn partly tree bits n
  pub fits : total (stored_root_sizes tree n) < 2 ^ 64

-- the same for a data size that the lengths of the roots add up to
pub record SearchedFor (partly : Bool) (tree bits : List ℕ) (n size : ℕ) : Type 0 where
  pub searched : Searched partly tree bits n
  pub adds : total (stored_root_sizes tree n) ≡ size

-- the same where the data bits of n chunks lie within the bitfield file, also of a register
pub record SearchedHeld (partly : Bool) (tree bits : List ℕ) (n : ℕ) : Type 0 where
  pub searched : Searched partly tree bits n
  pub held : used_bitfield n ≤ length bits

-- where the descent ends that goes on from a step, where every entry is known
abbrev pub followed : (ℕ → ℕ → ℕ → ℕ → Bool) → List ℕ → Step → Ending
followed within tree (End e) = ending_of e
followed within tree (Down j start) = descend always within tree (depth j.0) (block j.0) start.0

-- a step down comes to a child that may be visited, and whose depth is less
abbrev pub Lower : List ℕ → ℕ → Step → Type 0
Lower tree i (End e) = Unit {0}
Lower tree i (Down j start) = StandsAt tree j.0 start.0 × (depth j.0 < depth i)

-- a step down goes to the left child where what is sought lies there, and else to the right one
abbrev pub Turned : Bool → List ℕ → ℕ → ℕ → ℕ → ℕ → Type 0
Turned true tree i start j from = (j ≡ left_child i) × (from ≡ start)
Turned false tree i start j from = (j ≡ right_child i) × (from ≡ start + stored_size tree (left_child i))

-- it is made at a parent whose length is the sum of its children's
pub record Onward (within : ℕ → ℕ → ℕ → ℕ → Bool) (tree : List ℕ) (i start j from : ℕ) : Type 0 where
  pub deep : 0 < depth i
  pub sum : stored_size tree i ≡ stored_size tree (left_child i) + stored_size tree (right_child i)
  pub turned : Turned (within (depth (left_child i)) (block (left_child i)) start (stored_size tree (left_child i))) tree i start j from

-- and at no other node
abbrev pub Way : (ℕ → ℕ → ℕ → ℕ → Bool) → List ℕ → ℕ → ℕ → Step → Type 0
Way within tree i start (End e) = 0 < depth i → stored_size tree i ≡ stored_size tree (left_child i) + stored_size tree (right_child i) → ⊥
Way within tree i start (Down j from) = Onward within tree i start j.0 from.0

-- what a visit of the node at i finds
pub record Visited (within : ℕ → ℕ → ℕ → ℕ → Bool) (tree : List ℕ) (i start : ℕ) (step : Step) : Type 0 where
  pub same : followed within tree step ≡ descend always within tree (depth i) (block i) start
  pub lower : Lower tree i step
  pub way : Way within tree i start step
