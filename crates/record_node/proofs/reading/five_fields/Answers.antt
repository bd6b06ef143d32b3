-- Three fields, and behind them the others.
use Rattle.record_node.proofs.Five.{raw_first, raw_tail, raw_read}
use Rattle.record_node.proofs.reading.five_fields.Goals as goal

pub returns-in_err-parts : goal.returns-in_err-parts
returns-in_err-parts c = rw c.from_residual.ensures (raw_first c.args.d.now c.in_err-parts.ensures)

pub returns-in_err-tail : goal.returns-in_err-tail
returns-in_err-tail c = rw c.from_residual-in_err-tail.ensures (raw_tail c.args.d.now c.in_ok-parts.ensures c.in_err-tail.ensures)

pub returns : goal.returns
returns c = raw_read c.args.d.now c.in_ok-parts.ensures c.in_ok-tail.ensures
