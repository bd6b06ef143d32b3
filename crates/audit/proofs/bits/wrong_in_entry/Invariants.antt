-- `audit::bits::wrong_in_entry` meets its contract. The invariant: what is left from byte j on decides. Assumes nothing.
use Rattle.audit.proofs.Bytes.{Passing}
use Rattle.audit.specs.BitfieldEntries.{tree_bits}
use Rattle.audit.proofs.bits.wrong_in_entry.Given as goal

abbrev pub invariant-loop-j : goal.invariant-loop-j
invariant-loop-j l = Passing (tree_bits l.partly l.xs l.n) l.xs l.n l.e l.at.0 l.j l.index
