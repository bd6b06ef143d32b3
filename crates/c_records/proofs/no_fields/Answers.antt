-- The definition computes to the numbers.
use mathlib.Core.Path.{refl}
use Rattle.byte_strings.specs.Lists.{run}
use Rattle.c_records.specs.Flat.{flat_writers}
use Rattle.c_records.proofs.no_fields.Goals as goal

pub returns : goal.returns
unfolding flat_writers run
returns c = refl
