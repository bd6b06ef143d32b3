-- `file_format::roots::sizes_at` meets its contract. The loop has filled the array up to j. Assumes nothing.
use lib.ListN.{get_or}
use Rattle.tree_index.specs.Numbers.{numbers}
use Rattle.file_format.specs.Stored.{stored_size}
use Rattle.file_format.proofs.ByValue.{Filling}
use Rattle.file_format.proofs.roots.sizes_at.Given as goal

abbrev pub invariant-loop-j : goal.invariant-loop-j
invariant-loop-j l = Filling 0 (λ i. stored_size l.tree (get_or (numbers l.indexes) i 0)) l.count l.j l.sizes
