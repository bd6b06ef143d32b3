-- The Writers, behind them the sequence, and nothing behind that.
use Rattle.record_node.proofs.Five.{tail_writers, tail_number, tail_left, tail_read}
use Rattle.record_node.proofs.reading.last_fields.Goals as goal

pub returns-in_err-writers : goal.returns-in_err-writers
returns-in_err-writers c = rw c.from_residual.ensures (tail_writers c.args.d.now c.args.at c.in_err-writers.ensures)

pub returns-in_err-sequence : goal.returns-in_err-sequence
returns-in_err-sequence c =
    rw c.from_residual-in_err-sequence.ensures (tail_number c.args.d.now c.args.at c.in_ok-writers.ensures c.in_err-sequence.ensures)

pub returns-then-sequence-d : goal.returns-then-sequence-d
returns-then-sequence-d c = tail_left c.args.d.now c.args.at c.in_ok-writers.ensures c.in_ok-sequence.ensures c.if-sequence-d.true

pub returns : goal.returns
returns c = tail_read c.args.d.now c.args.at c.in_ok-writers.ensures c.in_ok-sequence.ensures c.if-sequence-d.false
