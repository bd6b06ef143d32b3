-- `packet::path::sibling_indexes` meets its contract. Assumes nothing.
use Prim.Native.Nat.{◌/◌, ◌^◌}
use Rattle.tree_index.specs.Tree.{index}
use Rattle.tree_index.specs.Numbers.{numbers}
use Rattle.file_format.proofs.ByValue.{Filling}
use Rattle.packet.specs.Packet.{beside}
use Rattle.packet.proofs.path.sibling_indexes.Given as goal

abbrev pub invariant-loop-h : goal.invariant-loop-h
invariant-loop-h l = Filling 0 (λ d. index d (beside (l.chunk.0 / 2 ^ d))) l.count l.h (numbers l.found)
