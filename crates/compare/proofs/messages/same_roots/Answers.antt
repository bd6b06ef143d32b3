-- `compare::messages::same_roots` meets its contract.  Assumes nothing.
use Rattle.compare.proofs.Same.{root_parts}
use Rattle.compare.proofs.messages.same_roots.Goals as goal

pub returns : goal.returns
returns c =
    let a = c.args in
    root_parts a.tree.now a.tree2.now a.n a.n2 c.root_count.result c.root_count-2.result
    c.stored_root_message-message.result c.stored_root_message-message2.result c.same.result c.root_count.ensures
    c.root_count-2.ensures c.stored_root_message-message.ensures c.stored_root_message-message2.ensures c.same.ensures
