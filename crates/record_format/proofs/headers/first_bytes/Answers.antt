-- The definition computes to the bytes.
use mathlib.Core.Path.{refl}
use Rattle.record_format.specs.Records.{hyperdrive}
use Rattle.record_format.specs.Post.{header_start}
use Rattle.record_format.proofs.headers.first_bytes.Goals as goal

pub returns : goal.returns
unfolding header_start hyperdrive
returns c = refl
