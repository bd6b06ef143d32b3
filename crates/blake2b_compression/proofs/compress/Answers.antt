-- The start vector, the rounds and the fold, each by its contract.
use Rattle.std.proofs.Common.{◌∙◌}
use Rattle.blake2b_compression.proofs.Whole.{compressed}
use Rattle.blake2b_compression.proofs.compress.Goals as goal

pub returns : goal.returns
returns c =
    c.fold.ensures
    ∙ compressed _ _ _ _ c.start_vector-v.ensures c.twelve_rounds-w.ensures
