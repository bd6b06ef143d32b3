-- `packet::checking::roots_in_turn` meets its contract: both arrays are filled from the front. Assumes nothing.
use Rattle.byte_strings.specs.Lists.{zeros}
use Rattle.file_format.proofs.ByValue.{Filling}
use Rattle.packet.specs.Inner.{turn_entry, entry_of}
use Rattle.packet.proofs.checking.roots_in_turn.Given as goal

abbrev pub invariant-loop-j : goal.invariant-loop-j
invariant-loop-j l =
    Filling (zeros 32) (λ i. (turn_entry l.packet l.at l.place (entry_of l.node) i).hash) l.count l.j l.hashes
    × Filling 0 (λ i. (turn_entry l.packet l.at l.place (entry_of l.node) i).size) l.count l.j l.sizes
