-- The table of waiting reads, and the two things done to it.
use Rattle.std.specs.Prelude.{ℕ, ◌+◌, ◌%◌, ◌<◌, cond, List, [], ◌∷◌, ◌++◌, length, get_or, drop, set, replicate, ltb}
use Rattle.answer_types.specs.Verdict.{Verdict, none, done, refused, unless_refused}
use Rattle.byte_strings.specs.Lists.{run}

-- "Up to 4 reads wait for each of stations 0 to 15"
abbrev pub stations : ℕ
stations = 16

abbrev pub most_waiting : ℕ
most_waiting = 4

-- a read that waits: the number of the register that it names, and the number of the chunk
pub record Read : Type 0 where
  pub register : ℕ
  pub chunk : ℕ

-- "first come first": the reads of each station, the one that came first in front; and the station last served
pub record Table : Type 0 where
  pub waiting : List (List Read)
  pub last : ℕ

-- the reads that wait for station s; none for a station that isn't there
abbrev pub waiting_for : Table → ℕ → List Read
waiting_for t s = get_or t.waiting s []

abbrev pub Waits : Table → ℕ → Type 0
Waits t s = 0 < length (waiting_for t s)

-- "A fresh table starts as if station 15 had been served."
unfoldable pub fresh : Table
fresh = record { waiting = replicate stations []; last = 15 }

-- "It refuses with 21 a station above 15 and then with 22 a fifth waiting read; entering a read checks nothing else."
unfoldable pub enter_verdict : Table → ℕ → Verdict
enter_verdict t s = cond (ltb s stations) (cond (ltb (length (waiting_for t s)) most_waiting) done (refused 22 none)) (refused 21 none)

-- the read waits behind those of its station that came before; after a refusal the table is as it was
abbrev pub behind : Table → ℕ → Read → Table
behind t s r = record { waiting = set t.waiting s (waiting_for t s ++ (r ∷ [])); last = t.last }

unfoldable pub entered : Table → ℕ → Read → Table
entered t s r = unless_refused (enter_verdict t s) (behind t s r) t

-- whose turn it is: a station with the read of it that came first, or nobody's
pub data Turn : Type 0 where
  nobody : Turn
  turn : ℕ → Read → Turn

-- station s has its turn where a read waits for it, else a later station has it
abbrev pub turn_or : ℕ → List Read → Turn → Turn
turn_or s [] later = later
turn_or s (r ∷ rest) later = turn s r

-- the first of some stations that has a read waiting
unfoldable pub first_of : List (List Read) → List ℕ → Turn
first_of w [] = nobody
first_of w (s ∷ rest) = turn_or s (get_or w s []) (first_of w rest)

-- "the next station in rising number, going round after the one last served": of these, the one that is k further
abbrev pub round_from : ℕ → ℕ → ℕ
round_from last k = (last + 1 + k) % stations

-- "Each serving takes the next station in rising number, going round after the one last served, that has a read waiting"
unfoldable pub next : Table → Turn
next t = first_of t.waiting (run (round_from t.last) 0 stations)

-- the read that is served leaves the table, whatever it is answered, and its station is the one last served; where nobody waits the table
-- stays as it is
abbrev pub after_turn : Table → ℕ → Table
after_turn t s = record { waiting = set t.waiting s (drop 1 (waiting_for t s)); last = s }

abbrev pub without : Turn → Table → Table
without nobody t = t
without (turn s r) t = after_turn t s

unfoldable pub served : Table → Table
served t = without (next t) t
