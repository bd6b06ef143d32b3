-- `copy_checks::unknown_root` meets its contract. The invariant: what is left of the roots decides. Assumes nothing.
use mathlib.Core.Path.{◌≡◌}
use lib.ListN.{drop}
use Rattle.tree_index.specs.Tree.{roots}
use Rattle.bitfield.specs.Known.{stored_known}
use Rattle.lookup.specs.Unknown.{first_unknown}
use Rattle.copy_checks.proofs.unknown_root.Given as goal

abbrev pub invariant-loop-i : goal.invariant-loop-i
invariant-loop-i l = first_unknown (stored_known l.bitfield) (drop l.i-index (roots l.n)) ≡ first_unknown (stored_known l.bitfield) (roots l.n)
