-- The chunks from the one at hand up were looked at.
use Rattle.answer_types.specs.Verdict.{done}
use Rattle.blake2b.specs.Hash.{node_hash}
use Rattle.record_find.specs.Inner.{judge_behind}
use Rattle.record_find.proofs.Search.{Left}
use Rattle.record_find.proofs.finding.search.Given as goal

abbrev pub invariant-loop-c : goal.invariant-loop-c
invariant-loop-c l = Left (judge_behind l.partly l.tree l.bitfield l.content l.n node_hash done l.path) l.n l.c
