-- So many were judged.
use Rattle.record_node.proofs.Bounds.{Judged}
use Rattle.record_node.proofs.judging.writers_lie.Given as goal

abbrev pub invariant-loop-i : goal.invariant-loop-i
invariant-loop-i l = Judged l.d l.list l.i
