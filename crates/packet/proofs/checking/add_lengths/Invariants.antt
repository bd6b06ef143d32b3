-- `packet::checking::add_lengths` meets its contract. Assumes nothing.
use Rattle.packet.specs.Inner.{sizes_in}
use Rattle.packet.proofs.Sums.{Adding}
use Rattle.packet.proofs.checking.add_lengths.Given as goal

abbrev pub invariant-loop-j : goal.invariant-loop-j
invariant-loop-j l = Adding (sizes_in l.packet l.at l.count) l.from l.j l.sum
