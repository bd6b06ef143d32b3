-- The diagonals stand as columns of the turned rows.
use Rattle.blake2b_compression.proofs.Steps.{turned}
use Rattle.blake2b_compression.proofs.mixing.diagonal_step.Goals as goal

pub returns : goal.returns
returns c = turned c.args.v c.mix-u.result _ _ c.mix-u.ensures
