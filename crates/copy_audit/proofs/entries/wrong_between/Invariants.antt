-- `copy_audit::entries::wrong_between` meets its contract. The invariant: what was found is the lowest of the entries passed. Assumes nothing.
use Rattle.blake2b.specs.Hash.{node_hash}
use Rattle.copy_checks.specs.Copy.{copy_of}
use Rattle.lookup.specs.Unknown.{first_entry}
use Rattle.copy_audit.proofs.Judged.{Seeking}
use Rattle.copy_audit.proofs.entries.wrong_between.Given as goal

abbrev pub invariant-loop-i : goal.invariant-loop-i
invariant-loop-i l = Seeking node_hash (copy_of l.tree l.bitfield l.content l.n l.size) l.fn.from.0 l.fn.end.0 l.i (first_entry l.found)
