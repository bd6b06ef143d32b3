-- `append_list::storing::add_bits` meets its contract: what the chunks from i on still do gives what all of them do. Assumes nothing.
use Prim.Native.Nat.{◌-◌}
use mathlib.Core.Path.{◌≡◌}
use Rattle.append_list.specs.Inner.{bits_once}
use Rattle.append_list.proofs.storing.add_bits.Given as goal

abbrev pub invariant-loop-i : goal.invariant-loop-i
invariant-loop-i l = bits_once l.bitfield l.i (l.end - l.i) ≡ bits_once l.initial.bitfield l.n l.k
