-- What the calls on a lent table answer and leave.
use Rattle.answer_types.specs.declared.Refusal.{Refusal}
use Rattle.std.specs.Prelude.{ℕ, ◌≡◌, List, Result, ⊤, Option, Some, None}
use Rattle.answer_types.specs.Verdict.{unless_refused}
use Rattle.answer_types.specs.Meaning.{said}
use Rattle.station_queue.specs.declared.Turn.{Turn as Answered}
use Rattle.station_queue.specs.Table.{Read, Turn, nobody, turn, fresh, enter_verdict, entered, next, served}
use Rattle.station_queue.specs.Words.{fresh_numbers, stored_at, left_at, table_of}

-- whose turn an answer names
abbrev pub turn_of : Option Answered → Turn
turn_of None = nobody
turn_of (Some t) = turn t.station (record { register = t.register; chunk = t.chunk.0 })

-- a fresh table: its numbers, and what they are read as
pub record Begun (numbers : List ℕ) : Type 0 where
  pub zeros : numbers ≡ fresh_numbers
  pub table : table_of numbers ≡ fresh

-- entering a read of station s: the answer, and the table's numbers before and after, the same after a refusal
pub record Entered (s : ℕ) (r : Read) (before : List ℕ) (answer : Result ⊤ Refusal) (after : List ℕ) : Type 0 where
  pub answers : said answer ≡ enter_verdict (table_of before) s
  pub table : table_of after ≡ entered (table_of before) s r
  pub numbers : after ≡ unless_refused (enter_verdict (table_of before) s) (stored_at before s r) before

-- a serving: the table's numbers before and after, the same where nobody waits
pub record Left (before after : List ℕ) : Type 0 where
  pub table : table_of after ≡ served (table_of before)
  pub numbers : after ≡ left_at (next (table_of before)) before
