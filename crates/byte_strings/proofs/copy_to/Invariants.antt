-- The first i bytes stand at their place; a turn sets one more behind them.
use mathlib.Core.Path.{◌≡◌}
use lib.ListN.{take}
use Rattle.byte_strings.specs.Lists.{put}
use Rattle.byte_strings.proofs.copy_to.Given as goal

abbrev pub invariant-loop-i : goal.invariant-loop-i
invariant-loop-i l = l.dst ≡ put l.initial.dst l.at (take l.i l.src)
