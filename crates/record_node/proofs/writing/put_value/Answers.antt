-- Nothing of an absent one; else its bytes, made beside and put as a part.
use native.Mathlib.Omega.{arith}
use Rattle.record_node.proofs.Placed.{value_nothing, stat_len, value_put}
use Rattle.record_node.proofs.writing.put_value.Goals as goal

pub slice_bounds-put_part-end : goal.slice_bounds-put_part-end
slice_bounds-put_part-end c = omega (arith, stat_len c.in-Some.is c.put_stat-len.ensures)

pub returns-in-Some : goal.returns-in-Some
returns-in-Some c = value_put c.in-Some.is c.put_stat-len.ensures c.put_part.ensures

pub returns-in-None : goal.returns-in-None
returns-in-None c = value_nothing c.in-None.is
