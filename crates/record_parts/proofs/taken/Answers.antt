-- A part that lies in the bytes lent is one of them.
use Rattle.record_parts.proofs.Handed.{part_given}
use Rattle.record_parts.proofs.taken.Goals as goal

pub returns-in-Some : goal.returns-in-Some
returns-in-Some c = part_given _ _ c.in-Some.p c.in-Some.is
