-- `copy_take_in::rows::left_size` meets its contract. Assumes nothing.
use mathlib.Core.Path.{◌∙◌}
use Rattle.packet.specs.Check.{entry_in}
use Rattle.copy_take_in.proofs.Entries.{left_of, right_of}
use Rattle.copy_take_in.proofs.rows.left_size.Goals as goal

pub returns-then-i-leaf : goal.returns-then-i-leaf
unfolding entry_in
returns-then-i-leaf c = c.read_be64.ensures ∙ left_of c.args.leaf.0 c.args.row.now c.args.at c.args.i.0 c.if-i-leaf.true

pub returns : goal.returns
returns c = right_of c.args.leaf.0 c.args.row.now c.args.at c.args.i.0 c.if-i-leaf.false
