-- By computing both sides.
use Rattle.byte_strings.specs.Lists.{run, joined}
use Rattle.c_records.specs.Numbers.{node_numbers, of_stat, of_writers}
use mathlib.Core.Path.{refl}
use Rattle.c_records.proofs.numbers.answered.Goals as goal

pub returns : goal.returns
unfolding node_numbers of_stat of_writers joined run
returns c = refl
