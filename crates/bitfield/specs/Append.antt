-- What an append does to the bitfield file, on any bytes: "sets the bits, regenerates the Index of the new chunk's bitfield entry
-- (zeroed first if it is new)".
use Rattle.std.specs.Prelude.{ℕ, zero, suc, ◌+◌, ◌*◌, ◌/◌, ◌%◌, List, [], ◌∷◌}
use Rattle.byte_strings.specs.Lists.{part, put, zeros}
use Rattle.tree_index.specs.Tree.{filled_by}
use Rattle.bitfield.specs.Bits.{set_bit}
use Rattle.bitfield.specs.Index.{index_bytes}

-- where entry e begins: 32 header bytes and the entries before it
unfoldable pub bits_place : ℕ → ℕ
bits_place e = 32 + 3328 * e

-- the entry of the new chunk n is new where n is a multiple of 8,192: all of its bytes become zero
unfoldable pub zeroed_if_new : List ℕ → ℕ → List ℕ
zeroed_if_new xs n = elim (n % 8192) [ zero ↦ put xs (bits_place (n / 8192)) (zeros 3328) | suc r ↦ xs ]

-- the data bit of chunk k
unfoldable pub set_data_bit : List ℕ → ℕ → List ℕ
set_data_bit xs k = set_bit xs (bits_place (k / 8192)) (k % 8192)

-- the tree bit of tree index i
unfoldable pub set_tree_bit : List ℕ → ℕ → List ℕ
set_tree_bit xs i = set_bit xs (bits_place (i / 16384) + 1024) (i % 16384)

unfoldable pub set_tree_bits : List ℕ → List ℕ → List ℕ
set_tree_bits xs [] = xs
set_tree_bits xs (i ∷ is) = set_tree_bits (set_tree_bit xs i) is

-- the Index of entry e made anew from the entry's data bytes
unfoldable pub regenerated : List ℕ → ℕ → List ℕ
regenerated xs e = put xs (bits_place e + 3072) (index_bytes (part xs (bits_place e) 1024))

-- the bits of the new chunk n: its data bit, in an entry that is zeroed first if it is new, and the tree bits that it fills
unfoldable pub with_bits : List ℕ → ℕ → List ℕ
with_bits xs n = set_tree_bits (set_data_bit (zeroed_if_new xs n) n) (filled_by n)

-- the bitfield file after the append of chunk n
unfoldable pub appended : List ℕ → ℕ → List ℕ
appended xs n = regenerated (with_bits xs n) (n / 8192)
