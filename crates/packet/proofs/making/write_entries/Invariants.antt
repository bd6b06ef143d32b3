-- `packet::making::write_entries` meets its contract. Assumes nothing.
use Rattle.tree_index.specs.Numbers.{numbers}
use Rattle.packet.proofs.Rows.{Writing}
use Rattle.packet.proofs.making.write_entries.Given as goal

abbrev pub invariant-loop-j : goal.invariant-loop-j
invariant-loop-j l = Writing l.tree (numbers l.indexes) l.initial.out l.at l.j l.out
