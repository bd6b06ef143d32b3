-- `compare::lowest_collision` meets its contract. The invariant: what is left from i decides, and the next leaves start at `start` and `start2`. Assumes nothing.
use Rattle.compare.proofs.Walked.{Meeting}
use Rattle.compare.proofs.lowest_collision.Given as goal

abbrev pub invariant-loop-index : goal.invariant-loop-index
invariant-loop-index l = Meeting l.tree l.content l.tree2 l.content2 l.n l.fn.from.0 l.fn.end.0 l.index l.start.0 l.start2.0
