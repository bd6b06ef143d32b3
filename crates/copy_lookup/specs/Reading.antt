-- The read on a copy.
use Rattle.std.specs.Prelude.{ℕ, List}
use Rattle.answer_types.specs.Verdict.{Verdict}
use Rattle.lookup.specs.Lookup.{Found}
use Rattle.lookup.specs.Read.{verdict_found, bytes_found, hash_judged}
use Rattle.copy_checks.specs.Copy.{Copy}
use Rattle.copy_lookup.specs.Lookups.{copy_held_place_of}

module _ (F : List ℕ → List ℕ) where
  -- what the checks of a read find: the refusals of the place of a chunk that is held; then "10. .. a read finds another leaf hash"
  unfoldable pub copy_read_found : Copy → ℕ → Found
  copy_read_found c i = hash_judged F c.tree c.content i (copy_held_place_of c i)

  unfoldable pub copy_read_verdict : Copy → ℕ → Verdict
  copy_read_verdict c i = verdict_found (copy_read_found c i)

  -- the chunk; nothing after a refusal
  unfoldable pub copy_read_part : Copy → ℕ → List ℕ
  copy_read_part c i = bytes_found c.content (copy_read_found c i)
