-- `audit::bits::wrong_in_entries` meets its contract. The invariant: what is left from entry e on decides. Assumes nothing.
use Rattle.audit.proofs.Bytes.{Entering}
use Rattle.audit.specs.BitfieldEntries.{tree_bits}
use Rattle.audit.proofs.bits.wrong_in_entries.Given as goal

abbrev pub invariant-loop-e : goal.invariant-loop-e
invariant-loop-e l = Entering (tree_bits l.partly l.xs l.n) l.xs l.n l.from l.end l.e
