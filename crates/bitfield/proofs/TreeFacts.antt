-- Where the nodes stand that a chunk fills. Assumes nothing.
use mathlib.Core.Path.{◌≡◌}
use mathlib.Core.Bool.{false}
use Prim.Native.Nat.{ℕ, ◌+◌, ◌-◌, ◌*◌, ◌/◌, ◌^◌, ◌<◌, ◌≤◌}
use native.Mathlib.Omega.{arith}
use lib.Pow.{pow_pos}
use Rattle.bitfield.specs.Append.{bits_place}
use Rattle.tree_index.specs.Tree.{index, completed, filled, entries}
use Rattle.tree_index.proofs.Index.{index_sum}
use Rattle.tree_index.proofs.Filled.{block_end, hole_past}
use Rattle.tree_index.proofs.Appended.{completed_end}

module _ (n d : ℕ) (small : n + 1 < 2 ^ 64) (h : d ≤ completed n) where
  -- the node of the 2^d chunks that end with chunk n
  pub width_le : 2 ^ d ≤ n + 1
  width_le = omega (arith, completed_end n d small h, block_end d ((n + 1) / 2 ^ d - 1))

  pub filled_place : index d ((n + 1) / 2 ^ d - 1) ≡ 2 * n + 1 - 2 ^ d
  filled_place =
      omega (arith, index_sum d ((n + 1) / 2 ^ d - 1), completed_end n d small h, block_end d ((n + 1) / 2 ^ d - 1))

-- the node stands before the leaf of the chunk behind it, so its bit lies in a file with room for the chunk's entry
pub filled_room : (n d i b k : ℕ) → b ≡ i / 16384 → i ≡ index d ((n + 1) / 2 ^ d - 1) → n < 1048576 → d ≤ completed n
    → bits_place (n / 8192 + 1) ≤ k → bits_place (b + 1) ≤ k
unfolding bits_place
filled_room n d i b k f e few h room = omega (arith, filled_place n d (omega arith) h, width_le n d (omega arith) h, pow_pos d)

-- no entry from 2n − 1 on is filled
pub filled_above : (n i : ℕ) → 2 * n ≤ i + 1 → filled n i ≡ false
unfolding entries
filled_above n i h = hole_past n i (omega arith)
