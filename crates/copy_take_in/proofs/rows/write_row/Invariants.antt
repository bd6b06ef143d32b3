-- `copy_take_in::rows::write_row` meets its contract. Assumes nothing.
use Rattle.tree_index.specs.Numbers.{numbers}
use Rattle.copy_take_in.proofs.Entries.{Written}
use Rattle.copy_take_in.proofs.rows.write_row.Given as goal

abbrev pub invariant-loop-j : goal.invariant-loop-j
invariant-loop-j l = Written l.initial.tree l.initial.bitfield l.row l.at (numbers l.indexes) l.count l.j l.tree l.bitfield
