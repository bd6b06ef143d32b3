-- `packet::checking::entry_size` meets its contract. Assumes nothing.
use Rattle.packet.specs.Check.{entry_in}
use Rattle.packet.proofs.checking.entry_size.Goals as goal

pub returns : goal.returns
unfolding entry_in
returns c = c.read_be64.ensures
