-- The parents afterwards, less those before.
use native.Mathlib.Omega.{arith}
use Rattle.append_needs.proofs.Completed.{new_parents}
use Rattle.append_needs.proofs.parent_runs.Goals as goal

pub overflow_mul-result : goal.overflow_mul-result
overflow_mul-result c = omega (arith, (new_parents _ _ _ _ _ c.requires c.runs_of.ensures c.parents-2.ensures c.parents.ensures).small)

pub returns : goal.returns
returns c = let new = new_parents _ _ _ _ _ c.requires c.runs_of.ensures c.parents-2.ensures c.parents.ensures in (new.sum, new.small)

pub overflow_sub-result : goal.overflow_sub-result
overflow_sub-result c = (new_parents _ _ _ _ _ c.requires c.runs_of.ensures c.parents-2.ensures c.parents.ensures).more
