-- `packet::checking::step_up` meets its contract. Assumes nothing.
use native.Mathlib.Omega.{arith}
use Rattle.blake2b.specs.Hash.{node_hash}
use Rattle.packet.specs.Inner.{entry_of}
use Rattle.packet.proofs.Climb.{stepped_left, stepped_right}
use Rattle.packet.proofs.checking.step_up.Goals as goal

pub returns-then-k-eq0 : goal.returns-then-k-eq0
returns-then-k-eq0 c =
    let a = c.args in
    stepped_left node_hash a.k (entry_of a.node) (entry_of a.beside) c.parent_hash-hash.result (omega arith) c.parent_hash-hash.ensures

pub returns-else-k-eq0 : goal.returns-else-k-eq0
returns-else-k-eq0 c =
    let a = c.args in
    stepped_right node_hash a.k (entry_of a.node) (entry_of a.beside) c.parent_hash-hash-else-k-eq0.result (omega arith) c.parent_hash-hash-else-k-eq0.ensures
