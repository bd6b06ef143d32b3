-- `copy_take_in::rows::write_one` meets its contract. Assumes nothing.
use mathlib.Core.Path.{refl}
use native.Mathlib.Omega.{arith}
use Rattle.packet.proofs.Rows.{lent_entry, lent_length}
use Rattle.copy_take_in.proofs.Entries.{one_written}
use Rattle.copy_take_in.proofs.rows.write_one.Goals as goal

pub copy_to-requires : goal.copy_to-requires
copy_to-requires c = omega (arith, c.entry_place-start.ensures, c.requires.0.entry.inside, lent_length c.args.row.now c.args.at c.requires.1)

pub returns : goal.returns
returns c =
    one_written c.args.tree.now c.args.bitfield.now c.args.row.now c.args.at c.args.i.0 c.entry_place-start.result _ _ _
    (λ j. (c.type_inv.row j).fits) c.requires.1
    c.entry_place-start.ensures (lent_entry c.args.row.now c.args.at _ refl) c.copy_to.ensures c.make_known.ensures
