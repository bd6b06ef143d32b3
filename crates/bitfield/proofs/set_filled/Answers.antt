-- The bit of a node that the chunk fills lies in the file.
use native.Mathlib.Omega.{arith}
use Prim.Native.Nat.{◌≤◌}
use Rattle.tree_index.specs.Tree.{completed}
use Rattle.bitfield.proofs.TreeFacts.{filled_room}
use Rattle.bitfield.proofs.set_filled.Goals as goal

pub set_tree_bit-requires : goal.set_tree_bit-requires
set_tree_bit-requires c =
    let below : c.loop-d.d ≤ completed c.args.c.0 = omega (arith, c.loop-d-test.true, c.completed-d-end.ensures) in
    let at = c.entry_of_index.ensures in
    (at, filled_room c.args.c.0 c.loop-d.d _ _ _ at c.node_ending-i.ensures c.requires.0 below (omega (arith, c.requires.1, c.loop-d.auto.xs)))
