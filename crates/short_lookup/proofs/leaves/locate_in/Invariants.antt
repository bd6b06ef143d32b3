-- `short_lookup::leaves::locate_in` meets its contract. The invariant: no leaf before k has the byte, `start` is the sum of their lengths, and `leaf` is the
-- last of them. Assumes nothing.
use Rattle.lookup.specs.Inner.{known_if}
use Rattle.short_lookup.proofs.Walks.{Passed}
use Rattle.short_lookup.proofs.leaves.locate_in.Given as goal

abbrev pub invariant-loop-k : goal.invariant-loop-k
invariant-loop-k l = Passed (known_if l.partly l.bitfield) l.tree l.n l.offset.0 l.k l.start.0 l.leaf.0
