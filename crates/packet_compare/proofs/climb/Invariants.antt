-- `packet_compare::climb` meets its contract. Assumes nothing.
use Rattle.packet.specs.Inner.{entry_of}
use Rattle.packet_compare.proofs.Climbs.{Walking}
use Rattle.packet_compare.proofs.climb.Given as goal

abbrev pub invariant-loop-j : goal.invariant-loop-j
invariant-loop-j l = Walking l.first l.at (entry_of l.initial.node) l.second l.at2 (entry_of l.initial.node2) l.count l.fn.chunk.0 (entry_of l.node) (entry_of l.node2) l.k l.j
