-- The entry of a chunk's leaf as it is stored in a copy: as in a register, with the checks of a copy, and with 20 where the entry is unknown. Nothing is audited.
use Rattle.std.specs.Prelude.{ℕ}
use Rattle.answer_types.specs.Verdict.{Verdict, done, and_then}
use Rattle.stored_leaf.specs.StoredLeaf.{leaf_in}
use Rattle.copy_checks.specs.Copy.{Copy, known}
use Rattle.copy_checks.specs.Checks.{copy_judged}

unfoldable pub copy_leaf_verdict : Copy → ℕ → Verdict
copy_leaf_verdict c k = and_then (copy_judged c done) (leaf_in (known c) c.n k)
