-- Each case by itself.
use mathlib.Core.Path.{refl}
use Rattle.record_node.proofs.Five.{value_wrong, value_right}
use Rattle.record_node.proofs.reading.read_value.Goals as goal

pub returns-in_err-stat-in-Some : goal.returns-in_err-stat-in-Some
returns-in_err-stat-in-Some c = rw c.from_residual.ensures (value_wrong _ _ c.in-Some.is c.requires refl c.in_err-stat-in-Some.ensures)

pub returns-in_ok-stat-in-Some : goal.returns-in_ok-stat-in-Some
returns-in_ok-stat-in-Some c = value_right _ _ c.in-Some.is c.requires _ refl c.in_ok-stat-in-Some.ensures
