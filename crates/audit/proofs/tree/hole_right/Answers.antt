-- `audit::tree::hole_right` meets its contract.  Assumes nothing.
use Prim.Native.Nat.{◌+◌, ◌-◌}
use Rattle.audit.proofs.Entries.{hole_same}
use Rattle.blake2b.specs.Hash.{node_hash}
use native.Mathlib.Omega.{arith}
use Rattle.audit.proofs.tree.hole_right.Goals as goal

pub returns : goal.returns
returns c =
    hole_same node_hash (c.entry_place-from.result + 40 - c.entry_place-from.result) c.requires c.entry_place-from.ensures c.is_zero.ensures (omega arith)
