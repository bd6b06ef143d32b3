-- What stands at a place of a byte string that is read as a journal.
use Rattle.std.specs.Prelude.{ℕ, ◌+◌, ◌-◌, ◌*◌, Bool, true, false, ◌&&◌, List, [], ◌∷◌, length, get_or, eqb, leb, Option, Some, None}
use Rattle.byte_strings.specs.Lists.{part}
use Rattle.byte_strings.specs.Numbers.{number}
use Rattle.journal.specs.Ranges.{Range, replaced, fresh, blank, witness}
use Rattle.journal.specs.Form.{hash_bytes, least_bytes, most_bytes}

-- the states of the file i
abbrev pub old_at : List ℕ → ℕ → ℕ
old_at j i = number (part j (24 + 16 * i) 8)

abbrev pub new_at : List ℕ → ℕ → ℕ
new_at j i = number (part j (32 + 16 * i) 8)

-- the numbers of the range at the place q
abbrev pub file_at : List ℕ → ℕ → ℕ
file_at j q = get_or j q 0

abbrev pub kind_at : List ℕ → ℕ → ℕ
kind_at j q = get_or j (q + 1) 0

abbrev pub start_at : List ℕ → ℕ → ℕ
start_at j q = number (part j (q + 2) 8)

abbrev pub size_at : List ℕ → ℕ → ℕ
size_at j q = number (part j (q + 10) 8)

-- a kind's bytes are so many times the range's length: old and new ones, new ones, none, those that stay
unfoldable pub times_long : ℕ → ℕ
times_long k = elim (eqb k 1) [ true ↦ 2 | false ↦ elim (eqb k 3) [ true ↦ 0 | false ↦ 1 ] ]

-- the place behind the range at q
unfoldable pub behind : List ℕ → ℕ → ℕ
behind j q = q + 18 + times_long (kind_at j q) * size_at j q

-- the first m bytes have a whole range at q, of one of the four kinds
unfoldable pub whole : List ℕ → ℕ → ℕ → Bool
whole j m q = leb (q + 18) m && ((leb 1 (kind_at j q) && leb (kind_at j q) 4) && leb (behind j q) m)

-- the end of a range's bytes that begin at a place, where they end by m
unfoldable pub bytes_end : ℕ → ℕ → ℕ → ℕ → Option ℕ
bytes_end kind size from m = elim (leb (from + times_long kind * size) m) [ true ↦ Some (from + times_long kind * size) | false ↦ None ]

-- a range by its numbers: its bytes stand at a place of the byte string j, old ones first
unfoldable pub range_of : List ℕ → ℕ → ℕ → ℕ → ℕ → Range
range_of j kind at size place =
    elim (eqb kind 1) [
      | true ↦ replaced at (part j place size) (part j (place + size) size)
      | false ↦ elim (eqb kind 2) [ true ↦ fresh at (part j place size) | false ↦ elim (eqb kind 3) [ true ↦ blank at size | false ↦ witness at (part j place size) ] ]
    ]

-- the range at q
unfoldable pub range_at : List ℕ → ℕ → Range
range_at j q = range_of j (kind_at j q) (start_at j q) (size_at j q) (q + 18)

-- "it has 216 to 2^28 bytes"
unfoldable pub length_right : ℕ → Bool
length_right n = leb least_bytes n && leb n most_bytes

-- all but the hash
abbrev pub body_length : List ℕ → ℕ
body_length j = length j - hash_bytes

-- the place of the bytes that stand in the file after the change, among a range's bytes that begin at a place
unfoldable pub new_bytes : ℕ → ℕ → ℕ → ℕ
new_bytes kind size from = elim (eqb kind 1) [ true ↦ from + size | false ↦ from ]

-- the place of the bytes that stand in the file after the change
unfoldable pub new_place : List ℕ → ℕ → ℕ
new_place j q = elim (eqb (kind_at j q) 1) [ true ↦ q + 18 + size_at j q | false ↦ q + 18 ]

-- the range at q as five numbers
abbrev pub numbers_at : List ℕ → ℕ → List ℕ
numbers_at j q = file_at j q ∷ kind_at j q ∷ start_at j q ∷ size_at j q ∷ new_place j q ∷ []
