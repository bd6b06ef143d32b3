-- What lies between before and after, as a call can see it.
use Rattle.std.specs.Prelude.{ℕ, zero, suc, ◌+◌, Bool, true, false, ◌&&◌, ◌||◌, List, length, get_or, eqb, leb, ltb, Ok, Err}
use Rattle.byte_strings.specs.Lowest.{Lowest, nowhere, first, lowest}
use Rattle.journal.specs.Ranges.{Range, replaced, fresh, blank, witness, start}
use Rattle.journal.specs.Form.{state_of}
use Rattle.journal.specs.Places.{old_at, new_at, file_at, whole, behind, range_at, length_right, body_length}
use Rattle.journal.specs.Reading.{Said, whether}
use Rattle.journal.specs.declared.JournalError.TheVariants.{Length, NotBetween, Byte, Unfit}

-- byte i behind the offset is the old one or the new one
unfoldable pub right_at : List ℕ → List ℕ → List ℕ → ℕ → ℕ → Bool
right_at f o n at i = eqb (get_or f (at + i) 0) (get_or o i 0) || eqb (get_or f (at + i) 0) (get_or n i 0)

-- the first wrong byte of a range, counted from its offset: "each of its bytes under a range of kind 1 is the old or the new one, each under a range of kind 4
-- the one given", and "Bytes under kinds 2 and 3 may be any"
unfoldable pub judged_range : List ℕ → Range → Lowest
judged_range f (replaced at o n) = lowest (right_at f o n at) 0 (length n)
judged_range f (fresh at n) = nowhere
judged_range f (blank at k) = nowhere
judged_range f (witness at w) = lowest (right_at f w w at) 0 (length w)

-- a range whose bytes are judged, kinds 1 and 4, lies in the file
unfoldable pub in_file : List ℕ → Range → Bool
in_file f (replaced at o n) = leb (at + length n) (length f)
in_file f (fresh at n) = true
in_file f (blank at k) = true
in_file f (witness at w) = leb (at + length w) (length f)

-- counted from the start of the file
unfoldable pub shifted : ℕ → Lowest → Lowest
shifted at nowhere = nowhere
shifted at (first i) = first (at + i)

-- the first wrong byte of a range, by its offset in the file; of a range that lies outside, its first
unfoldable pub met_range : List ℕ → Range → Lowest
met_range f r = elim (in_file f r) [ true ↦ shifted (start r) (judged_range f r) | false ↦ first (start r) ]

-- a wrong byte, or what is said next
unfoldable pub or_byte : Lowest → Said → Said
or_byte nowhere next = next
or_byte (first o) next = Err (Byte o)

-- the range at q is whole and of the file i
unfoldable pub is_of : List ℕ → ℕ → ℕ → ℕ → Bool
is_of j m i q = whole j m q && eqb (file_at j q) i

-- the ranges from q on, as long as they are of the file i: the first wrong byte, or the place behind them
unfoldable pub met : List ℕ → ℕ → ℕ → List ℕ → ℕ → ℕ → Said
met j m i f zero q = Ok q
met j m i f (suc k) q = whether (is_of j m i q) (or_byte (met_range f (range_at j q)) (met j m i f k (behind j q))) (Ok q)

-- "its state is at least the old one and at most the new one"
unfoldable pub state_met : List ℕ → ℕ → ℕ → Bool
state_met j i s = leb (old_at j i) s && leb s (new_at j i)

-- a file as it is, there or absent, whose ranges begin at q: the checks 8 and 9
unfoldable pub between : List ℕ → ℕ → ℕ → Bool → List ℕ → Said
between j i q there f =
    whether (length_right (length j))
    (whether (ltb i 10)
    (whether (state_met j i (state_of there (length f))) (met j (body_length j) i f (suc (length j)) q) (Err (NotBetween i)))
    (Err Unfit))
    (Err Length)
