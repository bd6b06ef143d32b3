-- `compare::messages::bytes_from` meets its contract. Assumes nothing.
use Rattle.std.proofs.Common.{◌+◌, ◌-◌, arith}
use Rattle.compare.proofs.Same.{cut_none, cut_short, cut_whole}
use Rattle.compare.proofs.messages.bytes_from.Goals as goal

pub returns-then-length-start : goal.returns-then-length-start
returns-then-length-start c = cut_none c.args.content.now c.args.start.0 c.args.size c.if-length-start.true

pub returns-then-length-start-2 : goal.returns-then-length-start-2
returns-then-length-start-2 c = cut_short c.args.content.now c.args.start.0 c.args.size c.if-length-start-2.true

pub returns : goal.returns
returns c =
    cut_whole c.args.content.now c.args.start.0 c.args.size (c.args.start.0 + c.args.size - c.args.start.0) (omega arith)
