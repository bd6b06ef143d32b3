-- `parts_audit::ranges::lesser` meets its contract. Assumes nothing.
use Rattle.parts_audit.proofs.Laws.{lesser_low, lesser_high}
use Rattle.parts_audit.proofs.ranges.lesser.Goals as goal

pub returns-then-a-b : goal.returns-then-a-b
returns-then-a-b c = lesser_low c.args.a c.args.b c.if-a-b.true

pub returns : goal.returns
returns c = lesser_high c.args.a c.args.b c.if-a-b.false
