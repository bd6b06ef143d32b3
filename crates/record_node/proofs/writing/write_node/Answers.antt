-- Fields within the bounds, made beside and given.
use native.Mathlib.Omega.{arith}
use Rattle.record_node.specs.Post.{NodeFits, node_of}
use Rattle.record_format.specs.Records.{node_bytes}
use Rattle.record_format.proofs.Writing.{yes, no}
use Rattle.record_format.proofs.Whole.{written_15, written_given}
use Rattle.record_node.proofs.Placed.{node_size, front_of}
use Rattle.record_node.proofs.writing.write_node.Goals as goal

pub returns-then-not-node_fits : goal.returns-then-not-node_fits
returns-then-not-node_fits c =
    let a = c.args in
    written_15 (NodeFits a.bytes.now a.node) (node_bytes (node_of a.bytes.now a.node)) a.out.now c.refusal.result c.refusal.ensures
    (no _ c.node_fits.result (c.if-not-node_fits.true) c.node_fits.ensures)

pub slice_bounds-give-end : goal.slice_bounds-give-end
slice_bounds-give-end c =
    let fits : NodeFits c.args.bytes.now c.args.node = yes _ c.node_fits.result (c.if-not-node_fits.false) c.node_fits.ensures in
    omega (arith, c.put_node-len.ensures.ends, node_size (fits))

pub returns : goal.returns
returns c =
    let fits : NodeFits c.args.bytes.now c.args.node = yes _ c.node_fits.result (c.if-not-node_fits.false) c.node_fits.ensures in
    let a = c.args in
    written_given (NodeFits a.bytes.now a.node) (node_bytes (node_of a.bytes.now a.node)) _ a.out.now _ _ (fits) (front_of c.put_node-len.ensures)
    c.give.ensures
