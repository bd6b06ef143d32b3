-- So many were read.
use Rattle.record_node.proofs.Listed.{Grown}
use Rattle.record_node.proofs.writers.writers_row.Given as goal

abbrev pub invariant-loop-count : goal.invariant-loop-count
invariant-loop-count l = Grown l.d l.at l.list l.count l.next
