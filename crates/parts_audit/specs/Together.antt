-- What the answers of parts say together: the refusal with the lowest number, and of those with one number the one with the lowest place.
use Rattle.std.specs.Prelude.{ℕ, Bool, cond, ◌&&◌, ◌||◌, List, [], ◌∷◌, ltb, eqb}
use Rattle.answer_types.specs.Verdict.{Spot, none, tree, bitfield, Verdict, done, refused}

-- a place as a number
abbrev pub place_number : Spot → ℕ
place_number none = 0
place_number (tree i) = i
place_number (bitfield b) = b

-- whether a refusal with the number m at one place comes before one with the number k at another
unfoldable pub comes_before : ℕ → Spot → ℕ → Spot → Bool
comes_before m at k to = ltb m k || (eqb m k && ltb (place_number at) (place_number to))

-- of two answers the one that comes before the other; "done" comes last
unfoldable pub earlier : Verdict → Verdict → Verdict
earlier done w = w
earlier (refused m at) done = refused m at
earlier (refused m at) (refused k to) = cond (comes_before m at k to) (refused m at) (refused k to)

-- of all
unfoldable pub together : List Verdict → Verdict
together [] = done
together (v ∷ vs) = earlier v (together vs)
