-- The bitfield file as the audit's code reads it: what the inner functions require, an entry with any Index bytes, and the tree bits of a register and of a
-- partial copy.
use Rattle.std.specs.Prelude.{ℕ, ◌+◌, ◌*◌, ◌≤◌, ◌<◌, Bool, cond, ◌&&◌, List, ◌++◌, length}
use Rattle.tree_index.specs.Tree.{filled}
use Rattle.bitfield.specs.Bits.{bit}
use Rattle.bitfield.specs.Image.{data_bytes, tree_bytes, entry_count}
use Rattle.bitfield.specs.Known.{stored_known}
use Rattle.file_format.specs.Sizes.{most_chunks, used_bitfield}

-- eight bits in a byte, the first the highest
abbrev pub eight : (a b c d e f g h : Bool) → ℕ
eight a b c d e f g h =
    128 * bit a + 64 * bit b + 32 * bit c + 16 * bit d + 8 * bit e + 4 * bit f + 2 * bit g + bit h

-- which tree bits are to be 1: those of the filled entries, and in a partial copy only where they are 1
unfoldable pub tree_bits : Bool → List ℕ → ℕ → ℕ → Bool
tree_bits partly xs n i = cond partly (filled n i && stored_known xs i) (filled n i)

-- entry e of a bitfield in which those chunks are held and those tree bits are 1 that two tests say, with these Index bytes
unfoldable pub entry_with : (ℕ → Bool) → (ℕ → Bool) → ℕ → List ℕ → List ℕ
entry_with held known e index = data_bytes held e ++ (tree_bytes known e ++ index)

-- a bitfield file that holds the entries of n chunks
pub record BitsIn (xs : List ℕ) (n : ℕ) : Type 0 where
  pub count : n ≤ most_chunks
  pub inside : used_bitfield n ≤ length xs

-- one of these entries
pub record AtBits (xs : List ℕ) (n e : ℕ) : Type 0 where
  pub file : BitsIn xs n
  pub entry : e < entry_count n
