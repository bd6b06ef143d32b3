-- What the front of bytes says of a field, whether or not it is so written: the value, and the bytes behind it. Nothing is refused here: which
-- bytes are a record is told by writing what they say (records, `as_written`).
use Rattle.std.specs.Prelude.{ℕ, ◌+◌, ◌-◌, ◌*◌, cond, List, [], ◌∷◌, ltb, eqb, get_or, take, drop}
use Rattle.std.proofs.Math.Option.{Option, none, some}

-- seven bits of each byte, the lowest first, up to the first byte below 128
unfoldable pub front_varint : List ℕ → ℕ × List ℕ
front_varint [] = (0, [])
front_varint (b ∷ s) = cond (ltb b 128) (b, s) (b - 128 + 128 * (front_varint s).0, (front_varint s).1)

-- the field of number k, a number: absent where another tag stands at the front
unfoldable pub front_number : ℕ → List ℕ → Option ℕ × List ℕ
front_number k s = cond (eqb (get_or s 0 256) (8 * k)) (some (front_varint (drop 1 s)).0, (front_varint (drop 1 s)).1) (none, s)

-- a length at the front, and as many bytes behind it
unfoldable pub front_bytes : List ℕ → List ℕ × List ℕ
front_bytes s = (take (front_varint s).0 (front_varint s).1, drop (front_varint s).0 (front_varint s).1)

-- the field of number k, a part
unfoldable pub front_part : ℕ → List ℕ → Option (List ℕ) × List ℕ
front_part k s = cond (eqb (get_or s 0 256) (8 * k + 2)) (some (front_bytes (drop 1 s)).0, (front_bytes (drop 1 s)).1) (none, s)

-- the bytes of a field; none of an absent one
abbrev pub or_nothing : Option (List ℕ) → List ℕ
or_nothing none = []
or_nothing (some bs) = bs
