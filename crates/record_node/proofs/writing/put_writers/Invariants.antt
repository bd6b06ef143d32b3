-- So many were put.
use Rattle.record_node.proofs.Placed.{Placed}
use Rattle.record_node.proofs.writing.put_writers.Given as goal

abbrev pub invariant-loop-i : goal.invariant-loop-i
invariant-loop-i l = Placed l.d l.list l.initial.out l.at l.out l.next l.i
