-- The key decides, and then the permission.
use Rattle.record_format.proofs.Writing.{yes}
use Rattle.record_node.proofs.Bounds.{key_short, writer_lies_lem}
use Rattle.record_node.proofs.judging.writer_lies.Goals as goal

pub returns : goal.returns
returns c =
    writer_lies_lem c.args.d.now c.args.writer c.if-writer-ne32.false (yes _ c.lies.result (c.if-not-lies.false) c.lies.ensures)
    c.bytes_lie.result c.bytes_lie.ensures

pub returns-then-writer-ne32 : goal.returns-then-writer-ne32
returns-then-writer-ne32 c = key_short c.if-writer-ne32.true
