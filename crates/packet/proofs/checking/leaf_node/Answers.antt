-- `packet::checking::leaf_node` meets its contract. Assumes nothing.
use mathlib.Core.Path.{ap}
use mathlib.Core.List.{List}
use Prim.Native.Nat.{ℕ}
use lib.ListN.{length}
use Rattle.file_format.specs.Entries.{leaf}
use Rattle.packet.proofs.Climb.{entry}
use Rattle.packet.proofs.checking.leaf_node.Goals as goal

pub returns : goal.returns
unfolding leaf
returns c = ap (λ (h : List ℕ). entry h (length c.args.chunk.now)) c.leaf_hash.ensures
