-- `audit::bits::wrong_byte` meets its contract. Assumes nothing.
use Rattle.audit.proofs.Bytes.{entering_all}
use Rattle.audit.specs.BitfieldEntries.{tree_bits}
use Rattle.audit.proofs.bits.wrong_byte.Goals as goal

pub returns : goal.returns
returns c =
    let a = c.args in
    entering_all (tree_bits a.partly a.xs.now a.n) a.xs.now a.n c.row_count.ensures c.wrong_in_entries.ensures
