-- What finding gives on a copy whose chunks are such records: from the statement that registers have theirs of (record_find, `FindsHighest`).
use Rattle.std.specs.Prelude.{ℕ, suc, ◌≡◌, List, length}
use Rattle.answer_types.specs.Verdict.{done}
use Rattle.record_format.specs.Records.{Header, Node}
use Rattle.record_find.specs.Theorems.{Highest, Reading}
use Rattle.copy_checks.specs.Copy.{Copy}
use Rattle.copy_checks.specs.Checks.{copy_judged}
use Rattle.copy_lookup.specs.Reading.{copy_read_verdict, copy_read_part}
use Rattle.copy_records.specs.Records.{copy_find}

-- whatever is found on a copy whose reads give a Header and Nodes is the highest number with that path, for every function F
abbrev pub CopyFindsHighest : Type 0
CopyFindsHighest =
    (F : List ℕ → List ℕ) (c : Copy) (h : Header) (ns : List Node) → Reading (copy_read_verdict F c) (copy_read_part F c) h ns → c.n ≡ suc (length ns)
    → copy_judged c done ≡ done → (path : List ℕ) → Highest path ns (copy_find F c path)
