-- `packet::path::other_indexes` meets its contract. Assumes nothing.
use lib.ListN.{get_or}
use Rattle.tree_index.specs.Tree.{roots}
use Rattle.tree_index.specs.Numbers.{numbers}
use Rattle.file_format.proofs.ByValue.{Filling}
use Rattle.packet.specs.Inner.{skipped}
use Rattle.packet.proofs.path.other_indexes.Given as goal

abbrev pub invariant-loop-j : goal.invariant-loop-j
invariant-loop-j l = Filling 0 (λ i. get_or (roots l.n) (skipped l.place i) 0) l.count l.j (numbers l.found)
