-- `packet::path::root_place` meets its contract. Assumes nothing.
use Rattle.tree_index.specs.Tree.{roots}
use Rattle.packet.proofs.Above.{Seeking}
use Rattle.packet.specs.Packet.{place_above}
use Rattle.packet.proofs.path.root_place.Given as goal

abbrev pub invariant-loop-j : goal.invariant-loop-j
invariant-loop-j l = Seeking (roots l.n) l.chunk.0 l.j (place_above (roots l.n) l.chunk.0)
