-- After i turns the planes have their first i bytes; a turn stores one more in each.
use Rattle.std.proofs.Common.{◌≡◌, ◌*◌, get_or}
use Rattle.byte_strings.specs.Numbers.{be}
use Rattle.coordinates.specs.Grouping.{word, difference}
use Rattle.coordinates.proofs.Words.{prior}
use Rattle.coordinates.proofs.Planes.{Filled}
use Rattle.coordinates.proofs.write_planes.Given as goal

abbrev pub invariant-loop-i : goal.invariant-loop-i
invariant-loop-i l = (l.before ≡ prior (word l.bytes) l.i) × Filled (λ k j. get_or (be 4 (difference l.bytes j)) k 0) l.n l.initial.out (4 * l.i) l.out
