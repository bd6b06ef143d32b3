-- `copy_take_in::way::above_indexes` meets its contract. Assumes nothing.
use Prim.Native.Nat.{◌+◌, ◌/◌, ◌^◌}
use Rattle.tree_index.specs.Tree.{index}
use Rattle.tree_index.specs.Numbers.{numbers}
use Rattle.file_format.proofs.ByValue.{Filling}
use Rattle.copy_take_in.proofs.way.above_indexes.Given as goal

abbrev pub invariant-loop-h : goal.invariant-loop-h
invariant-loop-h l = Filling 0 (λ d. index (d + 1) (l.chunk.0 / 2 ^ (d + 1))) l.count l.h (numbers l.found)
