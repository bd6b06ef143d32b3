-- The bits of the first d nodes are set.
use mathlib.Core.Path.{◌≡◌}
use Rattle.bitfield.specs.Append.{set_tree_bits}
use Rattle.bitfield.proofs.Append.{filled_first}
use Rattle.bitfield.proofs.set_filled.Given as goal

abbrev pub invariant-loop-d : goal.invariant-loop-d
invariant-loop-d l = l.xs ≡ set_tree_bits l.initial.xs (filled_first l.c.0 l.d)
