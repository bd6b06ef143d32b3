-- What a partial copy does with the bitfield file, on any bytes: a tree bit makes an entry known, and a chunk that is taken in is held.
use Rattle.std.specs.Prelude.{ℕ, ◌+◌, ◌/◌, ◌%◌, Bool, List}
use Rattle.bitfield.specs.Bits.{bit_at}
use Rattle.bitfield.specs.Append.{bits_place, set_data_bit, regenerated}

-- "their tree bits, which make an entry known": an entry is known where its stored tree bit is 1
unfoldable pub stored_known : List ℕ → ℕ → Bool
stored_known xs i = bit_at xs (bits_place (i / 16384) + 1024) (i % 16384)

-- "sets its data bit and regenerates that entry's Index"
unfoldable pub held_again : List ℕ → ℕ → List ℕ
held_again xs k = regenerated (set_data_bit xs k) (k / 8192)
