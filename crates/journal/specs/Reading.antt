-- Reading a journal: the checks 1 to 7 of FORMAT.md, "The journal", in their order.
use Rattle.std.specs.Prelude.{ℕ, zero, suc, ◌+◌, max, Bool, true, false, ◌&&◌, ◌||◌, List, length, get_or, take, drop, set, eqb, leb, ltb, Option, Some, None, Result, Ok, Err, is_ok}
use Rattle.byte_strings.specs.Lists.{part, run, same_list}
use Rattle.byte_strings.specs.Numbers.{number}
use Rattle.byte_strings.specs.Lowest.{Lowest, nowhere, first, lowest}
use Rattle.journal.specs.Form.{magic, front, length_of, states_right}
use Rattle.journal.specs.Places.{old_at, new_at, file_at, kind_at, start_at, size_at, behind, whole, length_right, body_length}
use Rattle.journal.specs.declared.JournalError.{JournalError}
use Rattle.journal.specs.declared.JournalError.TheVariants.{Length, First, OwnLength, State, Range, Gap, Hash, Unfit}

-- what a call says: the place behind what was read or written, or why it is refused
abbrev pub Said : Type 0
Said = Result ℕ JournalError

-- what the code's answer of a search stands for
abbrev pub place_of : Option ℕ → Lowest
place_of (Some i) = first i
place_of None = nowhere

-- what is said where a test holds, and where it does not
unfoldable pub whether : Bool → Said → Said → Said
whether true a b = a
whether false a b = b

-- ---- the table: the states

-- the states of the file i are right
unfoldable pub state_right : List ℕ → ℕ → Bool
state_right j i = states_right i (old_at j i) (new_at j i)

-- the lowest file whose states are wrong
unfoldable pub states_say : Lowest → Said → Said
states_say nowhere next = next
states_say (first i) next = Err (State i)

-- ---- the table: the ranges

-- the test of a range by its numbers: behind a, the end of the range before; within the new length; of kinds 2 and 3 without a gap behind p, up to where
-- all is covered; of kinds 1 and 4 within the old length
unfoldable pub numbers_right : ℕ → ℕ → ℕ → ℕ → ℕ → ℕ → ℕ → Bool
numbers_right kind at size old new a p = leb a at && (leb (at + size) new && elim (eqb kind 2 || eqb kind 3) [ true ↦ leb at p | false ↦ leb (at + size) old ])

-- where a range of a file may begin: behind the range before, if that was of the same file
unfoldable pub reach_of : ℕ → ℕ → ℕ → ℕ
reach_of file last reach = elim (eqb file last) [ true ↦ reach | false ↦ 0 ]

-- a range of one of ten files, behind one of the file `last` that ended at `reach`, not empty; `covered` says of each file up to where it
-- is covered: its old length, or the furthest end of its ranges so far if that lies behind
unfoldable pub follows : List ℕ → ℕ → ℕ → List ℕ → ℕ → Bool
follows j last reach covered q =
    ltb (file_at j q) 10
    && (leb last (file_at j q)
    && (leb 1 (size_at j q)
    && numbers_right (kind_at j q) (start_at j q) (size_at j q) (length_of (old_at j (file_at j q))) (length_of (new_at j (file_at j q))) (reach_of (file_at j q) last reach)
    (get_or covered (file_at j q) 0)))

-- the test of the range at q
unfoldable pub range_right : List ℕ → ℕ → ℕ → ℕ → List ℕ → ℕ → Bool
range_right j m last reach covered q = whole j m q && follows j last reach covered q

-- the end of the range at q, in its file
abbrev pub stop_at : List ℕ → ℕ → ℕ
stop_at j q = start_at j q + size_at j q

-- what is covered behind the range at q
unfoldable pub covered_by : List ℕ → List ℕ → ℕ → List ℕ
covered_by j covered q = set covered (file_at j q) (max (get_or covered (file_at j q) 0) (stop_at j q))

-- the file i is covered up to its new length
unfoldable pub is_full : List ℕ → List ℕ → ℕ → Bool
is_full j covered i = leb (length_of (new_at j i)) (get_or covered i 0)

-- the lowest file that has a gap
unfoldable pub gap_says : Lowest → Said → Said
gap_says nowhere next = next
gap_says (first i) next = Err (Gap i)

-- the walk from q to the end m, over at most so many ranges
unfoldable pub walk : List ℕ → ℕ → ℕ → ℕ → ℕ → List ℕ → ℕ → Said
walk j m zero last reach covered q = Err (Range q)
walk j m (suc k) last reach covered q =
    whether (eqb q m) (gap_says (lowest (is_full j covered) 0 10) (Ok m))
    (whether (range_right j m last reach covered q) (walk j m k (file_at j q) (stop_at j q) (covered_by j covered q) (behind j q)) (Err (Range q)))

-- at first each file is covered up to its old length
abbrev pub old_lengths : List ℕ → List ℕ
old_lengths j = run (λ i. length_of (old_at j i)) 0 10

-- all ranges up to the end m
unfoldable pub walked : List ℕ → ℕ → Said
walked j m = walk j m (suc m) 0 0 (old_lengths j) front

-- the table of a body of m bytes
unfoldable pub table : List ℕ → ℕ → Said
table j m = states_say (lowest (state_right j) 0 10) (walked j m)

-- ---- all of it

-- what is said next, where the first is done
unfoldable pub and_then : Said → Said → Said
and_then s next = whether (is_ok s) next s

-- the first bytes of a journal: the magic, and its own length
abbrev pub begins : List ℕ → Bool
begins j = same_list (part j 0 16) magic

abbrev pub own_length : List ℕ → ℕ
own_length j = number (part j 16 8)

-- what reading says of any bytes, with the hash F
unfoldable pub read : (List ℕ → List ℕ) → List ℕ → Said
read F j =
    whether (length_right (length j))
    (whether (begins j)
    (whether (eqb (own_length j) (length j))
    (and_then (table j (body_length j)) (whether (same_list (F (take (body_length j) j)) (drop (body_length j) j)) (Ok (length j)) (Err Hash)))
    (Err OwnLength))
    (Err First))
    (Err Length)

-- ---- range by range

-- the next range: the place behind it, or that there is none
unfoldable pub next_said : List ℕ → ℕ → Said
next_said j q = whether (length_right (length j)) (whether (whole j (body_length j) q) (Ok (behind j q)) (Err (Range q))) (Err Length)

-- what is left in numbers lent, which are written only where the call is done
unfoldable pub if_done : Said → List ℕ → List ℕ → List ℕ
if_done s after before = elim (is_ok s) [ true ↦ after | false ↦ before ]

-- the states of a file
unfoldable pub states_said : List ℕ → ℕ → Said
states_said j i = whether (length_right (length j)) (whether (ltb i 10) (Ok 0) (Err Unfit)) (Err Length)
