-- Bits in bytes.
use Rattle.std.specs.Prelude.{ℕ, zero, suc, ◌+◌, ◌-◌, ◌*◌, ◌/◌, ◌%◌, ◌^◌, Bool, true, false, List, [], ◌∷◌, get_or, set, eqb}
use Rattle.std.specs.Int.Bits.{bit_or}

abbrev pub bit : Bool → ℕ
bit true = 1
bit false = 0

-- "the first bit of a byte is its highest": the byte that holds the bits from number b on
unfoldable pub byte_of : (ℕ → Bool) → ℕ → ℕ
byte_of p b =
    128 * bit (p b) + 64 * bit (p (b + 1)) + 32 * bit (p (b + 2)) + 16 * bit (p (b + 3)) + 8 * bit (p (b + 4))
    + 4 * bit (p (b + 5)) + 2 * bit (p (b + 6)) + bit (p (b + 7))

-- k bytes that hold the bits from number b on
unfoldable pub bytes_of : (ℕ → Bool) → ℕ → ℕ → List ℕ
bytes_of p b zero = []
bytes_of p b (suc k) = byte_of p b ∷ bytes_of p (b + 8) k

-- the bit of the value 2^r in a byte
unfoldable pub digit : ℕ → ℕ → ℕ
digit x r = x / 2 ^ r % 2

-- whether the bit number b is 1, counted from the first bit of the byte at place p
unfoldable pub bit_at : List ℕ → ℕ → ℕ → Bool
bit_at xs p b = eqb (digit (get_or xs (p + b / 8) 0) (7 - b % 8)) 1

-- xs with the byte of that bit changed by f, which is told the byte and where the bit stands in it
unfoldable pub change_bit : (ℕ → ℕ → ℕ) → List ℕ → ℕ → ℕ → List ℕ
change_bit f xs p b = set xs (p + b / 8) (f (get_or xs (p + b / 8) 0) (7 - b % 8))

-- the bit becomes 1
abbrev pub with_digit : ℕ → ℕ → ℕ
with_digit x r = bit_or x (2 ^ r)

abbrev pub set_bit : List ℕ → ℕ → ℕ → List ℕ
set_bit = change_bit with_digit

-- the bit becomes 0
abbrev pub without_digit : ℕ → ℕ → ℕ
without_digit x r = x - 2 ^ r * digit x r

abbrev pub clear_bit : List ℕ → ℕ → ℕ → List ℕ
clear_bit = change_bit without_digit
