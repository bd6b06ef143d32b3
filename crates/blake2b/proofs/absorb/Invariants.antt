-- The state is that after the first i blocks.
use mathlib.Core.Path.{◌≡◌}
use mathlib.Core.List.{◌++◌}
use Rattle.blake2b.specs.Inner.{onward}
use Rattle.blake2b.proofs.absorb.Given as goal

abbrev pub invariant-loop-i : goal.invariant-loop-i
invariant-loop-i l = l.h ≡ onward l.initial.h l.front (l.prefix ++ l.body) l.i
