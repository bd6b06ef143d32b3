-- `listing_lines::lines::put_entries` meets its contract. The loop's invariant: the lines of the first i entries are put. Assumes nothing.
use Prim.Native.Nat.{◌*◌}
use Rattle.byte_strings.specs.Lists.{run, joined}
use Rattle.listing_lines.specs.Inner.{Put, stored_line}
use Rattle.listing_lines.proofs.lines.put_entries.Given as goal

abbrev pub invariant-loop-i : goal.invariant-loop-i
invariant-loop-i l = Put l.initial.out l.at (70 * l.i) (joined (run (stored_line l.tree l.n) 0 l.i)) l.next l.out
