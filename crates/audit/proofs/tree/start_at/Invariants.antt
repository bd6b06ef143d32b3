-- `audit::tree::start_at` meets its contract. The invariant: the lengths of the leaves before c are added up. Assumes nothing.
use Rattle.audit.proofs.Entries.{Adding}
use Rattle.audit.proofs.tree.start_at.Given as goal

abbrev pub invariant-loop-c : goal.invariant-loop-c
invariant-loop-c l = Adding l.tree l.c l.start.0
