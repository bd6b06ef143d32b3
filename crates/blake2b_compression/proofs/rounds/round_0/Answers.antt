-- The two halves of round 0, with the words that its row of SIGMA names.
use Rattle.blake2b_compression.specs.Constants.{SIGMA}
use Rattle.blake2b_compression.specs.Compression.{row}
use Rattle.blake2b_compression.proofs.Steps.{rounded}
use Rattle.blake2b_compression.proofs.rounds.round_0.Goals as goal

pub returns : goal.returns
unfolding row SIGMA
returns c = rounded (row 0) _ _ c.column_step-u.ensures c.diagonal_step.ensures
