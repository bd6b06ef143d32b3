-- "Add a search for the first chunk from a given number on, below n, that isn't held, or none. A given number of n or more answers none. It passes over
-- each group of 16 chunks whose Index tuple is 11 and reads the data bits of the others."
use Rattle.std.specs.Prelude.{ℕ, ◌+◌, ◌-◌, ◌*◌, ◌/◌, ◌%◌, ◌^◌, Bool, ◌||◌, List, get_or, eqb}
use Rattle.answer_types.specs.Verdict.{Spot, Verdict, done, refused}
use Rattle.byte_strings.specs.Lowest.{Lowest, lowest}
use Rattle.bitfield.specs.Append.{bits_place}
use Rattle.bitfield.specs.Release.{stored_held}
use Rattle.file_format.specs.Belongs.{Register}
use Rattle.checks.specs.Checks.{judged, register_checks}

-- the Index byte of the run h, of the chunks 64h to 64h + 63, in a bitfield file: "Index byte 2k holds the four tuples of data bytes 8k to 8k + 7"
abbrev pub tuples_place : ℕ → ℕ
tuples_place h = bits_place (h / 128) + 3072 + 2 * (h % 128)

unfoldable pub stored_tuples : List ℕ → ℕ → ℕ
stored_tuples xs h = get_or xs (tuples_place h) 0

-- the tuple of the group g in the Index byte of its run, "first tuple highest"
unfoldable pub tuple_in : ℕ → ℕ → ℕ
tuple_in byte g = byte / 4 ^ (3 - g % 4) % 4

-- the tuple of the group g, of the chunks 16g to 16g + 15
unfoldable pub stored_tuple : List ℕ → ℕ → ℕ
stored_tuple xs g = tuple_in (stored_tuples xs (g / 4)) g

-- chunk k is one of a group whose tuple is 11
unfoldable pub passed_over : List ℕ → ℕ → Bool
passed_over xs k = eqb (stored_tuple xs (k / 16)) 3

-- what the search does not stop at
unfoldable pub not_missing : List ℕ → ℕ → Bool
not_missing xs k = passed_over xs k || stored_held xs k

-- the first chunk from a given number on, below n, in a bitfield file; none from n on
unfoldable pub first_missing : List ℕ → ℕ → ℕ → Lowest
first_missing xs n from = lowest (not_missing xs) from (n - from)

-- what a search answers: a refusal, or the chunk, if there is one
pub data Sought : Type 0 where
  refusal : ℕ → Spot → Sought
  answer : Lowest → Sought

abbrev pub sought_unless : Verdict → Lowest → Sought
sought_unless done l = answer l
sought_unless (refused m at) l = refusal m at

-- the numbers 2 to 6, and then the search, unaudited
unfoldable pub search_for : Register → ℕ → Sought
search_for r from = sought_unless (judged (register_checks r) done) (first_missing r.bitfield r.n from)
