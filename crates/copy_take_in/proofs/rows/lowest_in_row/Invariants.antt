-- `copy_take_in::rows::lowest_in_row` meets its contract. Assumes nothing.
use mathlib.Core.List.{map}
use Rattle.tree_index.specs.Numbers.{numbers}
use Rattle.lookup.specs.Unknown.{first_entry}
use Rattle.copy_checks.proofs.Least.{Lowering}
use Rattle.copy_take_in.specs.TakeIn.{contradicts}
use Rattle.copy_take_in.specs.Inner.{row_given}
use Rattle.copy_take_in.proofs.rows.lowest_in_row.Given as goal

abbrev pub invariant-loop-j : goal.invariant-loop-j
invariant-loop-j l = Lowering (map (contradicts l.tree l.bitfield) (row_given l.row l.at (numbers l.indexes) l.count)) (first_entry l.initial.found) l.j (first_entry l.found)
