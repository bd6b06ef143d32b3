-- The path decides, and then the Stat.
use Rattle.record_node.proofs.Five.{no_path, no_value, all_right}
use Rattle.record_node.proofs.reading.judged.Goals as goal

pub returns-in_err-path : goal.returns-in_err-path
returns-in_err-path c = rw c.from_residual.ensures (no_path c.args.raw.tail.sequence c.requires c.in_err-path.ensures)

pub returns-in_err-value : goal.returns-in_err-value
returns-in_err-value c =
    rw c.from_residual-in_err-value.ensures (no_value c.args.raw.tail.sequence c.requires c.in_ok-path.path c.in_ok-path.ensures c.in_err-value.ensures)

pub returns : goal.returns
returns c = all_right c.args.raw.tail.sequence c.requires c.in_ok-path.path c.in_ok-path.ensures c.in_ok-value.value c.in_ok-value.ensures
