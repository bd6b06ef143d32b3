-- The first k bytes of the level are made.
use mathlib.Core.Path.{◌≡◌}
use Rattle.bitfield.specs.Levels.{level}
use Rattle.bitfield.proofs.index.make_level.Given as goal

abbrev pub invariant-loop-k : goal.invariant-loop-k
invariant-loop-k l = l.out ≡ level l.initial.out l.half l.k
