-- `lookup::descent::from_roots` meets its contract. The invariant: what is left of the search is the whole of it. Assumes nothing.
use Rattle.lookup.specs.Inner.{known_if}
use Rattle.lookup.proofs.Capped.{Rest}
use Rattle.lookup.proofs.descent.from_roots.Given as goal

abbrev pub invariant-loop-i : goal.invariant-loop-i
invariant-loop-i l = Rest (known_if l.partly l.bitfield) l.initial.left l.tree l.n l.start.0 l.left l.i-index
