-- `copy_audit::entries::wrong_entry` meets its contract. Assumes nothing.
use Rattle.blake2b.specs.Hash.{node_hash}
use Rattle.copy_checks.specs.Copy.{copy_of}
use Rattle.copy_audit.proofs.Judged.{seeking_whole}
use Rattle.copy_audit.proofs.entries.wrong_entry.Goals as goal

pub returns : goal.returns
returns c =
    let a = c.args in
    seeking_whole node_hash (copy_of a.tree.now a.bitfield.now a.content.now a.n a.size)
    c.entry_count.ensures c.wrong_between.ensures
