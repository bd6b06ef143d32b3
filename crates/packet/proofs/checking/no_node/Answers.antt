-- `packet::checking::no_node` meets its contract. Assumes nothing.
use mathlib.Core.Path.{refl}
use Rattle.file_format.specs.Entries.{hole}
use Rattle.packet.proofs.checking.no_node.Goals as goal

pub returns : goal.returns
unfolding hole
returns c = refl
