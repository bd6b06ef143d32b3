-- The working vector, word by word.
use Rattle.std.proofs.Common.{rules}
use Rattle.blake2b_compression.specs.Constants.{IV}
use Rattle.blake2b_compression.proofs.Whole.{started}
use Rattle.blake2b_compression.proofs.start_vector.Goals as goal

pub returns : goal.returns
unfolding IV
returns c = started c.args.h c.args.t.low c.args.t.high c.args.last (search rules) (search rules) (search rules) c.with_flag.ensures
