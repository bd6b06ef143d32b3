-- Each case by itself.
use mathlib.Core.Path.{sym, subst}
use borrow.Author.Tests.{lt-leb}
use Rattle.record_format.specs.Post.{Decides}
use Rattle.record_node.specs.Inner.{BytesLie}
use Rattle.record_node.proofs.Bounds.{lie_long, lie_given}
use Rattle.record_node.proofs.judging.bytes_lie.Goals as goal

pub returns-then-part-longest : goal.returns-then-part-longest
returns-then-part-longest c = lie_given c.args.d.now c.args.longest c.in-Some.is c.if-part-longest.true c.lies.result c.lies.ensures

pub returns-else-part-longest : goal.returns-else-part-longest
returns-else-part-longest c =
    subst (Decides (BytesLie c.args.d.now c.args.field c.args.longest)) (sym (lt-leb c.in-Some.part.len c.args.longest c.if-part-longest.false))
    (lie_long c.args.d.now c.args.longest c.in-Some.is c.if-part-longest.false)
