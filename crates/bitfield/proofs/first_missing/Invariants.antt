-- What is left from k on decides; a turn passes a chunk that is held.
use mathlib.Core.Path.{◌≡◌}
use Prim.Native.Nat.{◌-◌}
use Rattle.byte_strings.specs.Lowest.{lowest}
use Rattle.bitfield.specs.Release.{stored_held}
use Rattle.bitfield.proofs.first_missing.Given as goal

abbrev pub invariant-loop-k : goal.invariant-loop-k
invariant-loop-k l = lowest (stored_held l.xs) l.fn.from.0 (l.n - l.fn.from.0) ≡ lowest (stored_held l.xs) l.k (l.n - l.k)
