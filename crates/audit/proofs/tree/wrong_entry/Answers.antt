-- `audit::tree::wrong_entry` meets its contract. Assumes nothing.
use Rattle.audit.proofs.Entries.{walking_all}
use Rattle.blake2b.specs.Hash.{node_hash}
use mathlib.Core.Path.{refl}
use Rattle.audit.proofs.tree.wrong_entry.Goals as goal

pub returns : goal.returns
returns c =
    let a = c.args in
    walking_all node_hash a.tree.now a.bitfield.now a.content.now a.n a.size 0 c.entry_count.result refl c.entry_count.ensures
    c.wrong_between.ensures
