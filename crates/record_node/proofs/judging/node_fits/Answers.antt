-- The first field that is out of bounds decides.
use Rattle.record_format.proofs.Writing.{yes}
use Rattle.record_node.proofs.Bounds.{node_lies}
use Rattle.record_node.proofs.judging.node_fits.Goals as goal

pub returns : goal.returns
returns c =
    node_lies c.args.d.now c.args.node (yes _ c.number_fits.result (c.if-not-number_fits.false) c.number_fits.ensures)
    (yes _ c.path_lies.result (c.if-not-path_lies.false) c.path_lies.ensures)
    (yes _ c.value_fits.result (c.if-not-value_fits.false) c.value_fits.ensures)
    (yes _ c.bytes_lie.result (c.if-not-bytes_lie.false) c.bytes_lie.ensures) c.writers_lie.result c.writers_lie.ensures
