-- `tree_index::node_ending` meets its contract. Assumes nothing.
use native.Mathlib.Omega.{arith}
use Rattle.tree_index.proofs.Roots.{completed_few, completed_block}
use Rattle.tree_index.proofs.node_ending.Goals as goal

pub overflow_shr-blocks : goal.overflow_shr-blocks
overflow_shr-blocks c = omega (arith, completed_few c.args.c.0 c.args.d c.requires.0 c.requires.1)

pub overflow_sub-blocks : goal.overflow_sub-blocks
overflow_sub-blocks c = (completed_block c.args.c.0 c.args.d c.requires.0 c.requires.1).0

pub node_index-requires : goal.node_index-requires
node_index-requires c = omega (arith, completed_few c.args.c.0 c.args.d c.requires.0 c.requires.1, (completed_block c.args.c.0 c.args.d c.requires.0 c.requires.1).1)
