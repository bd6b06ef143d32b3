-- `tree_index::root_indexes` meets its contract. The loop's invariant: of the bits from d upward the roots are there, and zeros behind them.
-- Assumes nothing.
use Rattle.tree_index.specs.Numbers.{numbers}
use Rattle.tree_index.proofs.Gathered.{Gathered}
use Rattle.tree_index.proofs.root_indexes.Given as goal

abbrev pub invariant-loop-d : goal.invariant-loop-d
invariant-loop-d l = Gathered l.n l.d l.count (numbers l.found)
