-- The numbers that stand for what the calls on a table of waiting reads say.
use Rattle.std.specs.Prelude.{ℕ, ◌≡◌, List, ◌∷◌}
use Rattle.answer_types.specs.Verdict.{done, unless_refused}
use Rattle.blake2b.specs.Hash.{node_hash}
use Rattle.file_format.specs.Belongs.{Register}
use Rattle.lookup.specs.Lookup.{Found}
use Rattle.lookup.specs.Read.{named, read_found}
use Rattle.station_queue.specs.Table.{Read, Turn, nobody, turn, enter_verdict, entered, next, served}
use Rattle.station_queue.specs.Words.{stored_at, left_at, table_of}
use Rattle.station_reads.specs.Serving.{number_of, named_by}
use Rattle.c_encoding.specs.Encoding.{encoded, verdict_of, numbers_unless, as_part}

-- entering a read of station s: the answer, and the table's numbers before and after
pub record Enters (s : ℕ) (r : Read) (before answer after : List ℕ) : Type 0 where
  pub answers : answer ≡ encoded (enter_verdict (table_of before) s)
  pub table : table_of after ≡ entered (table_of before) s r
  pub numbers : after ≡ unless_refused (enter_verdict (table_of before) s) (stored_at before s r) before

-- what the direct read finds whose turn it is, in the register that it names: its refusal, or its part
abbrev pub part_of : Register → Register → Read → Found
part_of m c r = as_part (read_found node_hash (named (named_by r.register) m c) r.chunk)

-- what a serving says, as seven numbers: 0 and zeros where no read waits; else 1, the station, the register that its read names, the chunk, and what it
-- is answered
abbrev pub encoded_serving : Register → Register → Turn → List ℕ
encoded_serving m c nobody = 0 ∷ 0 ∷ 0 ∷ 0 ∷ encoded done
encoded_serving m c (turn s r) = 1 ∷ s ∷ number_of (named_by r.register) ∷ r.chunk ∷ encoded (verdict_of (part_of m c r))

-- what the two numbers lent to it are after it
abbrev pub numbers_served : Register → Register → Turn → List ℕ → List ℕ
numbers_served m c nobody before = before
numbers_served m c (turn s r) before = numbers_unless (part_of m c r) before

-- a serving from the registers m and c: the table's numbers and the two numbers before it, its answer, and both after it
pub record Hands (m c : Register) (before two answer after two_after : List ℕ) : Type 0 where
  pub answers : answer ≡ encoded_serving m c (next (table_of before))
  pub part : two_after ≡ numbers_served m c (next (table_of before)) two
  pub table : table_of after ≡ served (table_of before)
  pub numbers : after ≡ left_at (next (table_of before)) before
