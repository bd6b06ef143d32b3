use Prim.Native.Nat.{◌-◌, ◌+◌}
use mathlib.Core.Path.{sym, subst}
use native.Mathlib.Omega.{arith}
use Rattle.tree_index.specs.Numbers.{numbers}
use Rattle.tree_index.proofs.Numbers.{numbers_set}
use Rattle.tree_index.proofs.Gathered.{Gathered, gathered_none, gathered_skip, gathered_root}
use Rattle.tree_index.proofs.root_indexes.Goals as goal

pub loop-d-init : goal.loop-d-init
unfolding numbers
loop-d-init c = gathered_none

pub loop-d-preserved-then-high-eq1 : goal.loop-d-preserved-then-high-eq1
loop-d-preserved-then-high-eq1 c =
    subst (Gathered c.args.n (c.loop-d.d - 1) (c.loop-d.count + 1))
    (sym (numbers_set c.loop-d.found c.loop-d.count c.node_index.result))
    (gathered_root c.loop-d.invariant c.requires c.loop-d-test.true c.if-high-eq1.true c.node_index.ensures)

pub loop-d-preserved : goal.loop-d-preserved
loop-d-preserved c = gathered_skip c.loop-d.invariant c.loop-d-test.true (omega arith)
