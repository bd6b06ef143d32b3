-- The first k bytes of the data stand at their places, and zeros everywhere else.
use mathlib.Core.Path.{◌≡◌}
use mathlib.Core.List.{◌++◌}
use Prim.Native.Nat.{◌-◌, ◌*◌}
use Rattle.byte_strings.specs.Lists.{zeros}
use Rattle.bitfield.specs.Levels.{leaves}
use Rattle.bitfield.proofs.index.leaves_of.Given as goal

abbrev pub invariant-loop-k : goal.invariant-loop-k
invariant-loop-k l = l.out ≡ leaves l.s l.k ++ zeros (256 - 2 * l.k)
