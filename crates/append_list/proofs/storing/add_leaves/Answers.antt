use native.Mathlib.Omega.{arith}
use Rattle.append_list.proofs.Leaves.{going_none, going_fits, going_next, going_all}
use Rattle.append_list.proofs.storing.add_leaves.Goals as goal

pub loop-j-init : goal.loop-j-init
loop-j-init c = going_none c.requires

pub overflow_add-end : goal.overflow_add-end
overflow_add-end c =
    record { fits = omega (arith, (going_fits c.loop-j.invariant c.loop-j-test.true c.well_formed.1.0.0).content, c.well_formed.1.0.0) }

pub add_chunk-requires : goal.add_chunk-requires
add_chunk-requires c = going_fits c.loop-j.invariant c.loop-j-test.true c.well_formed.1.0.0

pub loop-j-preserved : goal.loop-j-preserved
loop-j-preserved c = going_next c.loop-j.invariant c.loop-j-test.true c.well_formed.1.0.0 c.add_chunk.ensures

pub returns : goal.returns
returns c = going_all c.loop-j.invariant c.loop-j-test.false
