-- `blake2b::gather` meets its contract. What the prefix leaves of the block is blank, and the body goes there.
-- Assumes nothing.
use Rattle.blake2b.proofs.Filling.{piece_body, piece_prefix, blank_after}
use native.Mathlib.Omega.{arith}
use Rattle.blake2b.proofs.gather.Goals as goal

pub fill-requires-then-p-n : goal.fill-requires-then-p-n
fill-requires-then-p-n c =
    let a = c.args in
    (omega arith, omega arith, blank_after a.prefix.now a.body.now a.p _ _ _ c.if-p-n.true c.fill.ensures c.min-from.ensures)

pub returns-then-p-n : goal.returns-then-p-n
returns-then-p-n c =
    let a = c.args in
    piece_prefix a.prefix.now a.body.now a.p _ _ _ c.if-p-n.true c.fill.ensures c.min-from.ensures _ c.fill-then-p-n.ensures

pub returns : goal.returns
returns c =
    let a = c.args in
    piece_body a.prefix.now a.body.now a.p _ _ c.if-p-n.false c.fill-2.ensures
