use Rattle.blake2b.specs.Hash.{word_at}
use native.Mathlib.Omega.{arith}
use Rattle.blake2b.proofs.word.Goals as goal

pub returns : goal.returns
unfolding word_at
returns c = omega arith
