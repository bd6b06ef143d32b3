-- `blake2b::compress_at` meets its contract. The words are those of the block.
-- Assumes nothing.
use Rattle.blake2b.proofs.Blocks.{of_block}
use Rattle.blake2b.proofs.compress_at.Goals as goal

pub returns : goal.returns
returns c = of_block _ _ _ _ _ c.compress.ensures c.words-m.ensures
