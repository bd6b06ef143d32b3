use native.Mathlib.Omega.{arith}
use Rattle.record_node.proofs.Placed.{placed_none, one_roomy, one_len, one_placed}
use Rattle.record_node.proofs.writing.put_writers.Goals as goal

pub loop-i-init : goal.loop-i-init
loop-i-init c = placed_none

pub put_writer-len-requires : goal.put_writer-len-requires
put_writer-len-requires c = one_roomy c.requires c.loop-i.invariant c.loop-i-test.true (omega arith)

pub slice_bounds-put_part-end : goal.slice_bounds-put_part-end
slice_bounds-put_part-end c = omega (arith, one_len c.requires c.loop-i.invariant c.loop-i-test.true c.put_writer-len.ensures)

pub loop-i-preserved : goal.loop-i-preserved
loop-i-preserved c = one_placed c.requires c.loop-i.invariant c.loop-i-test.true c.put_writer-len.ensures c.put_part-next.ensures
