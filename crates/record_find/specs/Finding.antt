-- "Finding a path gives the highest chunk number from 1 up whose path has the same bytes, or none."
use Rattle.std.specs.Prelude.{Option as Maybe, None, Some, Result, Ok, Err, ℕ, zero, suc, Bool, cond, List}
use Rattle.answer_types.specs.Verdict.{Spot, Verdict, done, refused}
use Rattle.answer_types.specs.Meaning.{spot_of}
use Rattle.file_format.specs.Belongs.{Register}
use Rattle.checks.specs.Checks.{judged, register_checks}
use Rattle.record_find.specs.ChunkRecords.{header_in, path_in}
use Rattle.answer_types.specs.declared.Refusal.{Refusal}
use Rattle.number_types.specs.declared.ChunkNumber.{ChunkNumber}

-- what a search ends in: a failure, a chunk, or none
pub data Outcome : Type 0 where
  failed : ℕ → Spot → Outcome
  at : ℕ → Outcome
  nowhere : Outcome

abbrev pub found_of : Result (Maybe ChunkNumber) Refusal → Outcome
found_of (Err x) = failed x.number (spot_of x.place)
found_of (Ok None) = nowhere
found_of (Ok (Some c)) = at c.0

-- "the first failure is the answer"
abbrev pub unless_failed : Verdict → Outcome → Outcome
unless_failed (refused m spot) o = failed m spot
unless_failed done o = o

-- what is told of chunk c, and what those below it end in
abbrev pub goes : ℕ → Verdict × Bool → Outcome → Outcome
goes c told below = unless_failed told.0 (cond told.1 (at c) below)

-- where `judge c` tells of chunk c whether it has the path: of a register's chunk, or of a copy's
module _ (judge : ℕ → Verdict × Bool) where
  -- among the chunks 1 to k: "the records from the latest down to the one found, are each read and judged in turn"
  unfoldable pub find_down : ℕ → Outcome
  find_down zero = nowhere
  find_down (suc k) = goes (suc k) (judge (suc k)) (find_down k)

  -- among n chunks, of whose first `head` tells. "An empty register gives none."
  abbrev pub find_among : Verdict → ℕ → Outcome
  find_among head zero = nowhere
  find_among head (suc k) = unless_failed head (find_down k)

  -- the checks come first, by their verdict
  abbrev pub find_by : Verdict → Verdict → ℕ → Outcome
  find_by checks head n = unless_failed checks (find_among head n)

module _ (F : List ℕ → List ℕ) (r : Register) (path : List ℕ) where
  abbrev pub judge_in : ℕ → Verdict × Bool
  judge_in c = path_in F r c path

  -- numbers 2 to 6 come first
  abbrev pub find_in : Outcome
  find_in = find_by judge_in (judged (register_checks r) done) (header_in F r 0).0 r.n
