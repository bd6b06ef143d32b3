-- `compare::messages::same_message` meets its contract. Assumes nothing.
use Rattle.std.proofs.Common.{arith}
use Rattle.compare.proofs.Same.{read_entry, read_parent, leaf_messages, parent_messages_lem}
use Rattle.compare.proofs.messages.same_message.Goals as goal

pub same_chunk-requires : goal.same_chunk-requires
same_chunk-requires c = (read_entry c.requires.1, read_entry c.requires.2)

pub returns-then-i-eq0 : goal.returns-then-i-eq0
returns-then-i-eq0 c =
    leaf_messages c.args.content.now c.args.content2.now c.requires.1 c.requires.2
    (omega (arith, c.well_formed.1.0.1)) (omega (arith, c.well_formed.1.1.1.1.0.1)) c.if-i-eq0.true c.same_chunk.ensures

pub same_parent-requires : goal.same_parent-requires
same_parent-requires c = (read_parent c.requires.1 c.if-i-eq0.false c.requires.0, read_parent c.requires.2 c.if-i-eq0.false c.requires.0)

pub returns : goal.returns
returns c =
    parent_messages_lem c.args.content.now c.args.content2.now c.requires.1 c.requires.2
    (λ j. (c.type_inv.tree j).fits) (λ j. (c.type_inv.tree2 j).fits) c.if-i-eq0.false c.requires.0 c.same_parent.ensures
