-- `blake2b::first_state` meets its contract. The literals are those of IV.
-- Assumes nothing.
use mathlib.Core.Path.{refl}
use Rattle.blake2b_compression.specs.Constants.{IV}
use Rattle.blake2b.specs.Hash.{initial, parameter}
use Rattle.blake2b.proofs.first_state.Goals as goal

pub returns : goal.returns
unfolding initial parameter IV
returns c = refl
