-- The record of a chunk of a copy: its read's refusals, 20 among them, then 15 at its leaf's tree index; and a path sought among the records of a copy.
use Rattle.std.specs.Prelude.{ℕ, Bool, List}
use Rattle.answer_types.specs.Verdict.{Verdict, done}
use Rattle.record_fields.specs.declared.rows.Part.{Part}
use Rattle.record_node.specs.declared.reading.Node.{Node as CodeNode}
use Rattle.record_find.specs.ChunkRecords.{header_after, node_after, path_after}
use Rattle.record_find.specs.Finding.{Outcome, find_by}
use Rattle.copy_checks.specs.Copy.{Copy}
use Rattle.copy_checks.specs.Checks.{copy_judged}
use Rattle.copy_lookup.specs.Reading.{copy_read_verdict, copy_read_part}

-- "It refuses with 15, after that chunk's own read, a chunk that is no such record, the place being its leaf's tree index"
module _ (F : List ℕ → List ℕ) (c : Copy) (i : ℕ) where
  abbrev pub copy_header : Verdict × Part
  copy_header = header_after (copy_read_verdict F c i) (copy_read_part F c i) i

  abbrev pub copy_node : Verdict × CodeNode
  copy_node = node_after (copy_read_verdict F c i) (copy_read_part F c i) i

  abbrev pub copy_path : List ℕ → Verdict × Bool
  copy_path path = path_after (copy_read_verdict F c i) (copy_read_part F c i) i path

-- "Chunk 0, then the records from the latest down to the one found, are each read and judged in turn, and the first failure is the answer"
module _ (F : List ℕ → List ℕ) (c : Copy) (path : List ℕ) where
  abbrev pub copy_judge : ℕ → Verdict × Bool
  copy_judge i = copy_path F c i path

  -- the checks of a copy come first
  abbrev pub copy_find : Outcome
  copy_find = find_by copy_judge (copy_judged c done) (copy_header F c 0).0 c.n
