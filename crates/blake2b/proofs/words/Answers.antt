-- `blake2b::words` meets its contract. Each call of `word` gives one word of the block.
-- Assumes nothing.
use Rattle.blake2b.specs.Hash.{block}
use Rattle.blake2b.proofs.words.Goals as goal

pub returns : goal.returns
unfolding block
returns c = cc
