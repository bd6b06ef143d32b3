-- `packet::checking::unhashed` meets its contract. Assumes nothing.
use mathlib.Core.Path.{refl, ap}
use Rattle.byte_strings.specs.Lists.{zeros}
use Rattle.file_format.specs.Entries.{Entry}
use Rattle.packet.specs.Inner.{unhanded}
use Rattle.packet.proofs.checking.unhashed.Goals as goal

pub returns : goal.returns
unfolding unhanded
returns c = record {
  same = refl;
  empty = ap (λ (x : Entry). record { own = x; row = zeros 800 }) c.no_node.ensures;
}
