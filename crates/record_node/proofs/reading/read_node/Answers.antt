-- Number 15, or the Node that was found.
use mathlib.Core.Path.{ap, ◌∙◌}
use Rattle.record_node.specs.Post.{node_told}
use Rattle.record_node.proofs.Five.{node_answered}
use Rattle.record_node.proofs.reading.read_node.Goals as goal

pub returns : goal.returns
returns c = ap node_told c.ok_or.ensures.value ∙ node_answered c.args.bytes.now c.found_node.result c.refusal.result c.found_node.ensures c.refusal.ensures
