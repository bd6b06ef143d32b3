-- Each word of the row is a sum of three words.
use Rattle.blake2b_compression.proofs.Steps.{rowed}
use Rattle.blake2b_compression.proofs.mixing.wrapping_add3.Goals as goal

pub returns : goal.returns
returns c = rowed c.sum3.ensures c.sum3-2.ensures c.sum3-3.ensures c.sum3-4.ensures
