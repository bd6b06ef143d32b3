-- How the 161 numbers of a lent table are read. Every content is read as a table: a count above 4 is taken as 4, the place of the first
-- read modulo 4, and the station last served modulo 16.
use Rattle.std.specs.Prelude.{ℕ, ◌+◌, ◌-◌, ◌*◌, ◌%◌, cond, List, get_or, set, replicate, ltb}
use Rattle.byte_strings.specs.Lists.{run}
use Rattle.station_queue.specs.Table.{Read, Table, Turn, nobody, turn, stations, most_waiting}

abbrev pub table_words : ℕ
table_words = 161

-- numbers 0 to 15: how many reads wait for each station
unfoldable pub count_at : List ℕ → ℕ → ℕ
count_at t s = cond (ltb (get_or t s 0) most_waiting) (get_or t s 0) most_waiting

-- numbers 16 to 31: at which of its 4 places each station's first read stands; the others follow, going round
unfoldable pub first_at : List ℕ → ℕ → ℕ
first_at t s = get_or t (16 + s) 0 % most_waiting

-- numbers 32 to 95 and 96 to 159: the register and the chunk of the read at place p of station s
unfoldable pub read_at : List ℕ → ℕ → ℕ → Read
read_at t s p = record { register = get_or t (32 + (4 * s + p)) 0; chunk = get_or t (96 + (4 * s + p)) 0 }

unfoldable pub waiting_at : List ℕ → ℕ → List Read
waiting_at t s = run (λ j. read_at t s ((first_at t s + j) % most_waiting)) 0 (count_at t s)

-- number 160: the station last served
unfoldable pub last_at : List ℕ → ℕ
last_at t = get_or t 160 0 % stations

unfoldable pub table_of : List ℕ → Table
table_of t = record { waiting = run (waiting_at t) 0 stations; last = last_at t }

-- the numbers of a fresh table: zeros, and station 15 as the one last served
abbrev pub fresh_numbers : List ℕ
fresh_numbers = set (replicate table_words 0) 160 15

-- the numbers once a read waits behind those of station s, and no number else is changed: the first place behind them, and the count
unfoldable pub behind_at : List ℕ → ℕ → ℕ
behind_at t s = 4 * s + (first_at t s + count_at t s) % most_waiting

unfoldable pub stored_at : List ℕ → ℕ → Read → List ℕ
stored_at t s r = set (set (set t (32 + behind_at t s) r.register) (96 + behind_at t s) r.chunk) s (count_at t s + 1)

-- the numbers once the read of a turn has left: the next place is the first, the count is one less, and the station is the one last served
unfoldable pub dropped_at : List ℕ → ℕ → List ℕ
dropped_at t s = set (set (set t (16 + s) ((first_at t s + 1) % most_waiting)) s (count_at t s - 1)) 160 s

abbrev pub left_at : Turn → List ℕ → List ℕ
left_at nobody t = t
left_at (turn s r) t = dropped_at t s
