use Rattle.record_format.proofs.Writing.{no}
use Rattle.record_node.proofs.Bounds.{writers_one, writers_all}
use Rattle.record_node.proofs.judging.writers_lie.Goals as goal

pub returns-then-not-writer_lies : goal.returns-then-not-writer_lies
returns-then-not-writer_lies c = writers_one c.loop-i.i c.loop-i-test.true (no _ c.writer_lies.result (c.if-not-writer_lies.true) c.writer_lies.ensures)

pub returns : goal.returns
returns c = writers_all c.if-count-gt8.false c.loop-i.i c.loop-i-test.false c.loop-i.invariant
