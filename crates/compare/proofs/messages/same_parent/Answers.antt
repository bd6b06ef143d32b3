-- `compare::messages::same_parent` meets its contract. The tests come in the definition's order. Assumes nothing.
use Rattle.audit.proofs.Entries.{entry_as}
use Rattle.compare.proofs.Same.{parent_sums, parent_left, parent_right_lem}
use Rattle.compare.proofs.messages.same_parent.Goals as goal

pub returns-then-sum_below : goal.returns-then-sum_below
returns-then-sum_below c = parent_sums c.args.tree.now c.args.tree2.now c.args.i.0 c.sum_below.ensures c.sum_below-2.ensures c.if-sum_below.true

pub same_hash-requires : goal.same_hash-requires
same_hash-requires c = (entry_as c.left_child.ensures c.requires.0.left, entry_as c.left_child.ensures c.requires.1.left)

pub returns-then-not-same_hash : goal.returns-then-not-same_hash
returns-then-not-same_hash c =
    let a = c.args in
    parent_left a.tree.now a.tree2.now a.i.0 c.sum_below.ensures c.sum_below-2.ensures c.if-sum_below.false c.left_child.ensures c.same_hash.ensures (c.if-not-same_hash.true)

pub same_hash-requires-2 : goal.same_hash-requires-2
same_hash-requires-2 c = (entry_as c.right_child.ensures c.requires.0.right, entry_as c.right_child.ensures c.requires.1.right)

pub returns : goal.returns
returns c =
    let a = c.args in
    parent_right_lem a.tree.now a.tree2.now a.i.0 c.sum_below.ensures c.sum_below-2.ensures c.if-sum_below.false c.left_child.ensures c.same_hash.ensures c.if-not-same_hash.false
    c.right_child.ensures c.same_hash-2.ensures
