-- `blake2b::compress_key` meets its contract: the key's block is counted whole.
-- Assumes nothing.
use Rattle.blake2b.proofs.Blocks.{of_count}
use Rattle.blake2b.proofs.compress_key.Goals as goal

pub returns : goal.returns
returns c = of_count _ _ _ _ _ c.compress_gathered.ensures c.counter-taken.ensures
