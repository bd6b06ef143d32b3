-- `audit::tree::wrong_between` meets its contract. The invariant: what is left from i decides, and the next leaf starts at `start`. Assumes nothing.
use Rattle.audit.proofs.Entries.{Walking}
use Rattle.blake2b.specs.Hash.{node_hash}
use Rattle.audit.proofs.tree.wrong_between.Given as goal

abbrev pub invariant-loop-index : goal.invariant-loop-index
invariant-loop-index l = Walking node_hash l.tree l.bitfield l.content l.n l.size l.fn.from.0 l.fn.end.0 l.index l.start.0
