-- `packet::checking::entry_node` meets its contract. Assumes nothing.
use mathlib.Core.Path.{ap₂}
use mathlib.Core.List.{List}
use Prim.Native.Nat.{ℕ}
use Rattle.packet.specs.Check.{entry_in}
use Rattle.packet.proofs.Climb.{entry}
use Rattle.packet.proofs.checking.entry_node.Goals as goal

pub returns : goal.returns
unfolding entry_in
returns c = ap₂ (λ (h : List ℕ) (s : ℕ). entry h s) c.entry_hash.ensures c.entry_size.ensures
