-- What a search answers where the Index is that of the data bits, as in every register that belongs to chunks, held or released.
--
-- The notions in it: `lowest` (byte_strings, Lowest), `index_bytes`, `bits_place` and `stored_held` (bitfield, Index, Append and Release), `Slot` and `held_in` (file_format, Slots),
-- `Register` and `Belongs` (file_format, Belongs), `judged` and `register_checks` (checks, Checks), `first_missing` and `search_for` (Search).
use Rattle.std.specs.Prelude.{ℕ, ◌+◌, ◌-◌, ◌<◌, ◌≡◌, List, length}
use Rattle.answer_types.specs.Verdict.{done}
use Rattle.byte_strings.specs.Lists.{part}
use Rattle.byte_strings.specs.Lowest.{lowest}
use Rattle.bitfield.specs.Index.{index_bytes}
use Rattle.bitfield.specs.Image.{entry_count}
use Rattle.bitfield.specs.Append.{bits_place}
use Rattle.bitfield.specs.Release.{stored_held}
use Rattle.file_format.specs.Slots.{Slot, held_in}
use Rattle.file_format.specs.Belongs.{Register, Belongs}
use Rattle.checks.specs.Checks.{judged, register_checks}
use Rattle.search.specs.Search.{first_missing, answer, search_for}

-- the Index of each entry of n chunks is that of its data bytes
unfoldable pub IndexFollows : List ℕ → ℕ → Type 0
IndexFollows xs n = (e : ℕ) → e < entry_count n → part xs (bits_place e + 3072) 256 ≡ index_bytes (part xs (bits_place e) 1024)

-- then no group that is passed over has a chunk that is not held
abbrev pub SearchFollowsForAll : Type 0
SearchFollowsForAll =
    (xs : List ℕ) (n : ℕ) → IndexFollows xs n → (from : ℕ) → first_missing xs n from ≡ lowest (stored_held xs) from (n - from)

-- the search of a register that passes the checks 2 to 6 and belongs to the chunks ss answers the first of them, from a given number on, that is not
-- held: for every F
abbrev pub SearchAnswersForAll : Type 0
SearchAnswersForAll =
    (F : List ℕ → List ℕ) (ss : List Slot) (r : Register) → Belongs F r ss → judged (register_checks r) done ≡ done
    → (from : ℕ) → search_for r from ≡ answer (lowest (held_in ss) from (length ss - from))
