-- `append_list::storing::add_leaves` meets its contract: the chunks below j are in the tree. Assumes nothing.
use Rattle.append_list.proofs.Leaves.{Going}
use Rattle.append_list.proofs.storing.add_leaves.Given as goal

abbrev pub invariant-loop-j : goal.invariant-loop-j
invariant-loop-j l = Going l.initial.tree l.content l.n l.start l.lengths l.tree l.at l.j
