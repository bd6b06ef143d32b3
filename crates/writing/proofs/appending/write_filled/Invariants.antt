-- `writing::appending::write_filled` meets its contract: the entries of the depths below d are written, and the node in hand is that
-- of the depth d. Assumes nothing.
use mathlib.Core.Path.{◌≡◌}
use Rattle.blake2b.specs.Hash.{node_hash}
use Rattle.writing.specs.Inner.{entry_of, made}
use Rattle.writing.proofs.Climbed.{Going}
use Rattle.writing.proofs.appending.write_filled.Given as goal

abbrev pub invariant-loop-d : goal.invariant-loop-d
invariant-loop-d l = (entry_of l.node ≡ made node_hash l.initial.tree l.n (entry_of l.initial.node) l.d) × Going l.initial.tree l.n (entry_of l.initial.node) l.d l.tree
