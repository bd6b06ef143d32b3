-- `short_lookup::leaves::place_in` meets its contract. The invariant: the leaves before k are right, and `start` and `length` are those of the last of
-- them. Assumes nothing.
use Rattle.lookup.specs.Inner.{known_if}
use Rattle.short_lookup.proofs.Walks.{Come}
use Rattle.short_lookup.proofs.leaves.place_in.Given as goal

abbrev pub invariant-loop-k : goal.invariant-loop-k
invariant-loop-k l = Come (known_if l.partly l.bitfield) l.tree l.fn.chunk.0 l.k l.start.0 l.length
