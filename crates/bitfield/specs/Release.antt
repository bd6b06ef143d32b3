-- What a release does to the bitfield file, on any bytes: it "clears its data bit, regenerates that entry's Index". And what the stored bits say.
use Rattle.std.specs.Prelude.{ℕ, ◌/◌, ◌%◌, Bool, List}
use Rattle.bitfield.specs.Bits.{bit_at, clear_bit}
use Rattle.bitfield.specs.Append.{bits_place, regenerated}

-- a chunk is held where its stored data bit is 1
unfoldable pub stored_held : List ℕ → ℕ → Bool
stored_held xs k = bit_at xs (bits_place (k / 8192)) (k % 8192)

unfoldable pub clear_data_bit : List ℕ → ℕ → List ℕ
clear_data_bit xs k = clear_bit xs (bits_place (k / 8192)) (k % 8192)

-- the bitfield file after the release of chunk k
unfoldable pub released_bits : List ℕ → ℕ → List ℕ
released_bits xs k = regenerated (clear_data_bit xs k) (k / 8192)
