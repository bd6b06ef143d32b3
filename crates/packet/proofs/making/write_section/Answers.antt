-- `packet::making::write_section` meets its contract. Assumes nothing.
use mathlib.Core.Path.{refl}
use native.Mathlib.Omega.{arith}
use lib.ListN.{set}
use Rattle.tree_index.specs.Numbers.{numbers}
use Rattle.packet.specs.Inner.{entries_at}
use Rattle.packet.proofs.Rows.{section_written}
use Rattle.packet.proofs.making.write_section.Goals as goal

pub returns : goal.returns
returns c =
    let a = c.args in
    section_written a.out.now (set a.out.now a.at a.count) c.write_entries.new.out a.at a.count
    (entries_at a.tree.now (numbers a.indexes) a.count) (omega (arith, c.requires.1)) refl c.write_entries.ensures
