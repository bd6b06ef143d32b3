-- The bitfield's entries, over any two tests: which chunks are held, and which tree entries are known.
use Rattle.std.specs.Prelude.{ℕ, ◌+◌, ◌*◌, ◌/◌, Bool, List, ◌++◌, ltb}
use Rattle.byte_strings.specs.Lists.{run, joined}
use Rattle.tree_index.specs.Tree.{filled}
use Rattle.bitfield.specs.Bits.{bytes_of}
use Rattle.bitfield.specs.Index.{index_bytes}

-- "1024 data bytes for chunks 8192e to 8192e + 8191"
unfoldable pub data_bytes : (ℕ → Bool) → ℕ → List ℕ
data_bytes held e = bytes_of held (8192 * e) 1024

-- "2048 tree bytes for tree indexes 16384e to 16384e + 16383"
unfoldable pub tree_bytes : (ℕ → Bool) → ℕ → List ℕ
tree_bytes known e = bytes_of known (16384 * e) 2048

-- entry e: data bytes, tree bytes, Index bytes
unfoldable pub entry : (ℕ → Bool) → (ℕ → Bool) → ℕ → List ℕ
entry held known e = data_bytes held e ++ (tree_bytes known e ++ index_bytes (data_bytes held e))

-- "n chunks need n / 8192 entries, rounded up."
unfoldable pub entry_count : ℕ → ℕ
entry_count n = (n + 8191) / 8192

-- "A data bit is 1 for each chunk below n": where all of them are held
abbrev pub held_below : ℕ → ℕ → Bool
held_below n k = ltb k n

-- the entries of n chunks, of which those are held and those tree entries known that two tests say
unfoldable pub entries_for : (ℕ → Bool) → (ℕ → Bool) → ℕ → List ℕ
entries_for held known n = joined (run (entry held known) 0 (entry_count n))

-- of a register. "a tree bit for each entry that is no hole; others are 0": among the entries from 0 to 2n − 2 those that are no hole are the
-- filled ones, and no entry behind them is filled
abbrev pub entries_of : (ℕ → Bool) → ℕ → List ℕ
entries_of held n = entries_for held (filled n) n
