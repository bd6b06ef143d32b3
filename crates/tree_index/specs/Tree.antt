-- The in-order tree of the scope's section "Tree": a node is the block k of 2^d chunks, and stands at the tree index `index d k`.
use Rattle.std.specs.Prelude.{ℕ, zero, suc, ◌+◌, ◌-◌, ◌*◌, ◌/◌, ◌%◌, ◌^◌, Bool, List, [], ◌∷◌, ◌++◌, leb}
use Rattle.std.specs.Int.Count.{count_trailing_zeros}
use Rattle.byte_strings.specs.Lists.{run}

-- the tree index of the block k of 2^d chunks. "chunk i is the leaf at tree index 2i"; a parent stands between its two children
unfoldable pub index : ℕ → ℕ → ℕ
index zero k = 2 * k
index (suc d) k = 2 * index d k + 1

-- the trailing one bits of i, of which w at the most are looked at
unfoldable pub trailing_ones : ℕ → ℕ → ℕ
trailing_ones zero i = zero
trailing_ones (suc w) i = elim (i % 2) [ zero ↦ zero | suc b ↦ suc (trailing_ones w (i / 2)) ]

-- "The depth of an index is its number of trailing one bits." An index i has no more than i bits.
unfoldable pub depth : ℕ → ℕ
depth i = trailing_ones i i

-- which block of 2^(depth i) chunks the index i stands for
unfoldable pub block : ℕ → ℕ
block i = i / 2 ^ (depth i + 1)

-- the children of a parent, and the parent of a node
unfoldable pub left_child : ℕ → ℕ
left_child i = index (depth i - 1) (2 * block i)

unfoldable pub right_child : ℕ → ℕ
right_child i = index (depth i - 1) (2 * block i + 1)

unfoldable pub parent : ℕ → ℕ
parent i = index (depth i + 1) (block i / 2)

-- "A tree index is filled when its entry is no hole", and "a parent whose last leaf isn't there yet is a hole":
-- among n chunks a node is filled where all of its block is there
unfoldable pub filled : ℕ → ℕ → Bool
filled n i = leb ((block i + 1) * 2 ^ depth i) n

-- the root of 2^d chunks, which a register of n chunks has where n has the bit d: its block ends where n, less its lower bits, does
unfoldable pub root_of : ℕ → ℕ → List ℕ
root_of d n = elim (n / 2 ^ d % 2) [ zero ↦ [] | suc b ↦ index d (n / 2 ^ d - 1) ∷ [] ]

-- the roots of fewer than 2^d chunks
unfoldable pub roots_below : ℕ → ℕ → List ℕ
roots_below zero n = []
roots_below (suc d) n = root_of d n ++ roots_below d n

-- "A register of n chunks has as many roots as n has one bits, largest first from the left, at most 20": n is at most 2^20
unfoldable pub roots : ℕ → List ℕ
roots n = roots_below 21 n

-- "2n − 1 entries (none for n = 0)"
unfoldable pub entries : ℕ → ℕ
entries n = 2 * n - 1

-- how many parents the chunk n completes: "trailing zeros of n + 1 for completed parents"
unfoldable pub completed : ℕ → ℕ
completed n = count_trailing_zeros 64 (n + 1)

-- the tree indexes that appending the chunk n fills: its leaf, and then the completed parents upward
unfoldable pub filled_by : ℕ → List ℕ
filled_by n = run (λ d. index d ((n + 1) / 2 ^ d - 1)) 0 (completed n + 1)
