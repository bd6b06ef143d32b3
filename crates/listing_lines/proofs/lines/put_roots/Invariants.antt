-- `listing_lines::lines::put_roots` meets its contract. The loop's invariant: the roots so far are put. Assumes nothing.
use Prim.Native.Nat.{◌*◌}
use Rattle.listing_lines.specs.Inner.{Put}
use Rattle.listing_lines.proofs.Entries.{roots_up_to}
use Rattle.listing_lines.proofs.lines.put_roots.Given as goal

abbrev pub invariant-loop-i : goal.invariant-loop-i
invariant-loop-i l = Put l.initial.out l.at (21 * l.i-index) (roots_up_to l.n l.i-index) l.next l.out
