-- `blake2b::compress_inner` meets its contract. A block is made of its bytes, wherever they lie.
-- Assumes nothing.
use Rattle.blake2b.proofs.Blocks.{block_body, of_block, of_count}
use Rattle.blake2b.proofs.compress_inner.Goals as goal

pub returns-then-n-p : goal.returns-then-n-p
returns-then-n-p c =
    let a = c.args in
    of_count _ _ _ _ _
    (of_block _ _ _ _ _ c.compress_at.ensures (block_body a.prefix.now a.body.now a.p c.if-n-p.true))
    c.counter-taken.ensures

pub returns : goal.returns
returns c = of_count _ _ _ _ _ c.compress_gathered.ensures c.counter-taken.ensures
