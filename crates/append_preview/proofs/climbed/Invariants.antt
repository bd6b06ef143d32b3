-- `append_preview::climbed` meets its contract: the node in hand is that of the depth d. Assumes nothing.
use mathlib.Core.Path.{◌≡◌}
use Rattle.blake2b.specs.Hash.{node_hash}
use Rattle.writing.specs.Inner.{entry_of, made}
use Rattle.append_preview.proofs.climbed.Given as goal

abbrev pub invariant-loop-d : goal.invariant-loop-d
invariant-loop-d l = entry_of l.node ≡ made node_hash l.tree l.n (entry_of l.initial.node) l.d
