-- `audit::tree::parent_right` meets its contract. The tests come in the definition's order. Assumes nothing.
use Rattle.audit.proofs.Entries.{entry_as, size_as, parent_less, parent_off, parent_same}
use Rattle.blake2b.specs.Hash.{node_hash}
use Rattle.file_format.specs.Stored.{stored_hash}
use mathlib.Core.Path.{◌∙◌, ap}
use Rattle.audit.proofs.tree.parent_right.Goals as goal

pub stored_size-first-requires : goal.stored_size-first-requires
stored_size-first-requires c = entry_as c.left_child-left.ensures c.requires.left

pub returns-then-here-first : goal.returns-then-here-first
returns-then-here-first c =
    let a = c.args in
    parent_less node_hash a.tree.now a.i.0 c.stored_size-here.ensures (size_as a.tree.now c.left_child-left.ensures c.stored_size-first.ensures) c.if-here-first.true

pub stored_size-second-requires : goal.stored_size-second-requires
stored_size-second-requires c = entry_as c.right_child-right.ensures c.requires.right

pub returns-then-here-first-2 : goal.returns-then-here-first-2
returns-then-here-first-2 c =
    let a = c.args in
    parent_off node_hash a.tree.now a.i.0 c.stored_size-here.ensures (size_as a.tree.now c.left_child-left.ensures c.stored_size-first.ensures)
    (size_as a.tree.now c.right_child-right.ensures c.stored_size-second.ensures) c.if-here-first.false c.if-here-first-2.true

pub stored_hash-a-requires : goal.stored_hash-a-requires
stored_hash-a-requires c = entry_as c.left_child-left.ensures c.requires.left

pub stored_hash-b-requires : goal.stored_hash-b-requires
stored_hash-b-requires c = entry_as c.right_child-right.ensures c.requires.right

pub returns : goal.returns
returns c =
    let a = c.args in
    parent_same node_hash a.tree.now a.i.0 c.stored_size-here.ensures (size_as a.tree.now c.left_child-left.ensures c.stored_size-first.ensures)
    (size_as a.tree.now c.right_child-right.ensures c.stored_size-second.ensures) c.if-here-first.false c.if-here-first-2.false
    (c.stored_hash-a.ensures ∙ ap (stored_hash a.tree.now) c.left_child-left.ensures)
    (c.stored_hash-b.ensures ∙ ap (stored_hash a.tree.now) c.right_child-right.ensures)
    c.parent_hash-expected.ensures c.stored_hash-stored.ensures c.same.ensures
