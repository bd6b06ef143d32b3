-- `compare::messages::collides_at` meets its contract.  Assumes nothing.
use Rattle.compare.proofs.Same.{read_entry, collide_hole, collide_hash, collide_both}
use Rattle.std.proofs.Common.{sym, ◌∙◌}
use Rattle.compare.proofs.messages.collides_at.Goals as goal

pub is_filled-requires : goal.is_filled-requires
is_filled-requires c = (read_entry c.requires.0).small

pub returns-then-not-is_filled : goal.returns-then-not-is_filled
returns-then-not-is_filled c =
    let a = c.args in
    collide_hole a.tree.now a.content.now a.tree2.now a.content2.now a.n a.i.0 (sym c.is_filled.ensures ∙ c.if-not-is_filled.true)

pub same_hash-requires : goal.same_hash-requires
same_hash-requires c = (read_entry c.requires.0, read_entry c.requires.1)

pub returns-then-not-same_hash : goal.returns-then-not-same_hash
returns-then-not-same_hash c =
    let a = c.args in
    collide_hash a.tree.now a.content.now a.tree2.now a.content2.now a.n a.i.0 (sym c.same_hash.ensures ∙ c.if-not-same_hash.true)

pub same_message-requires : goal.same_message-requires
same_message-requires c = (sym c.is_filled.ensures ∙ c.if-not-is_filled.false, c.requires.0, c.requires.1)

pub returns : goal.returns
returns c =
    let a = c.args in
    collide_both a.tree.now a.content.now a.tree2.now a.content2.now a.n a.i.0
    (sym c.is_filled.ensures ∙ c.if-not-is_filled.false) (sym c.same_hash.ensures ∙ c.if-not-same_hash.false) c.same_message.ensures
