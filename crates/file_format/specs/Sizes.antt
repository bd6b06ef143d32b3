-- The limits, and the used size of each file: what a register of n chunks, s signatures and a data size takes of its buffers.
use Rattle.std.specs.Prelude.{ℕ, ◌+◌, ◌*◌}
use Rattle.tree_index.specs.Tree.{entries}
use Rattle.bitfield.specs.Image.{entry_count}

-- "at most 1,048,576 chunks, each of at most 65,536 bytes"
abbrev pub most_chunks : ℕ
most_chunks = 1048576

abbrev pub longest_chunk : ℕ
longest_chunk = 65536

-- where the tree entry i begins
unfoldable pub entry_place : ℕ → ℕ
entry_place i = 32 + 40 * i

unfoldable pub used_tree : ℕ → ℕ
used_tree n = 32 + 40 * entries n

unfoldable pub used_signatures : ℕ → ℕ
used_signatures s = 32 + 64 * s

unfoldable pub used_bitfield : ℕ → ℕ
used_bitfield n = 32 + 3328 * entry_count n
