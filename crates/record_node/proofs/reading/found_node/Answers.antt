-- The five fields decide, and then those that are judged.
use Rattle.record_node.proofs.Five.{raw_rejected}
use Rattle.record_node.proofs.reading.found_node.Goals as goal

pub returns-in_err-raw : goal.returns-in_err-raw
returns-in_err-raw c = rw c.from_residual.ensures (raw_rejected c.in_err-raw.ensures)
