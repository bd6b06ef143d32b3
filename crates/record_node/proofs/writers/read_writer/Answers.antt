-- The key, behind it the permission, and nothing behind that.
use Rattle.record_node.proofs.Keyed.{writer_first, writer_second, writer_left, writer_whole}
use Rattle.record_node.proofs.writers.read_writer.Goals as goal

pub returns-in_err-key : goal.returns-in_err-key
returns-in_err-key c = rw c.from_residual.ensures (writer_first c.args.d.now c.args.at c.in_err-key.ensures)

pub returns-in_err-permission : goal.returns-in_err-permission
returns-in_err-permission c =
    rw c.from_residual-in_err-permission.ensures (writer_second c.args.d.now c.args.at c.in_ok-key.ensures c.in_err-permission.ensures)

pub returns-then-permission-d : goal.returns-then-permission-d
returns-then-permission-d c = writer_left c.args.d.now c.args.at c.in_ok-key.ensures c.in_ok-permission.ensures c.if-permission-d.true

pub returns : goal.returns
returns c =
    writer_whole c.args.d.now c.args.at c.in_ok-key.ensures c.in_ok-permission.ensures c.requires c.if-permission-d.false
    c.with_key.result c.with_key.ensures
