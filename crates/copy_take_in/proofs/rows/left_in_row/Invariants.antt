-- `copy_take_in::rows::left_in_row` meets its contract. Assumes nothing.
use Prim.Native.Nat.{◌+◌}
use mathlib.Core.Path.{◌≡◌}
use mathlib.Core.List.{map}
use Rattle.byte_strings.specs.Lists.{total}
use Rattle.tree_index.specs.Numbers.{numbers}
use Rattle.copy_take_in.specs.TakeIn.{left_size}
use Rattle.copy_take_in.specs.Inner.{row_given}
use Rattle.copy_take_in.proofs.rows.left_in_row.Given as goal

abbrev pub invariant-loop-j : goal.invariant-loop-j
invariant-loop-j l = l.sum ≡ l.from + total (map (left_size l.leaf.0) (row_given l.row l.at (numbers l.indexes) l.j))
