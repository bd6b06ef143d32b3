-- `packet::checking::climb` meets its contract. Assumes nothing.
use Rattle.blake2b.specs.Hash.{node_hash}
use Rattle.packet.specs.Inner.{entry_of}
use Rattle.packet.proofs.Rising.{Rising}
use Rattle.packet.proofs.checking.climb.Given as goal

abbrev pub invariant-loop-j : goal.invariant-loop-j
invariant-loop-j l = Rising node_hash l.packet l.at l.count l.initial.k (entry_of l.initial.node) l.k (entry_of l.node) l.j l.row
