-- Fields by their number: "We write fields in rising number and each varint in its shortest form."
--
-- A field is its tag and its value. The tag is 8 times the number and the wire type: 0 for a number, 2 for a part, which is a length and bytes.
use Rattle.std.specs.Prelude.{ℕ, ◌+◌, ◌*◌, ◌<◌, ◌≤◌, List, [], ◌++◌, length, get_or}
use Rattle.std.proofs.Math.Option.{Option, none, some}
use Rattle.record_fields.specs.Varints.{varint}

-- "fields that the paper calls optional may be absent": nothing is written of these
unfoldable pub number_field : ℕ → Option ℕ → List ℕ
number_field k none = []
number_field k (some x) = varint (8 * k) ++ varint x

unfoldable pub part_field : ℕ → Option (List ℕ) → List ℕ
part_field k none = []
part_field k (some bs) = varint (8 * k + 2) ++ (varint (length bs) ++ bs)

-- a part that is there
abbrev pub given_field : ℕ → List ℕ → List ℕ
given_field k bs = part_field k (some bs)

abbrev pub Short : ℕ → List ℕ → Type 0
Short longest bs = length bs ≤ longest

-- an absent field, or a number of at most `most`
abbrev pub Most : ℕ → Option ℕ → Type 0
Most most none = Unit {0}
Most most (some x) = x ≤ most

-- an absent field, or a part of at most `longest` bytes
abbrev pub Longest : ℕ → Option (List ℕ) → Type 0
Longest longest none = Unit {0}
Longest longest (some bs) = length bs ≤ longest

-- what may follow the field of number k: nothing, or a tag of a higher number
abbrev pub Later : ℕ → List ℕ → Type 0
Later k t = 8 * k + 7 < get_or t 0 256
