-- By the case of what was read.
use Rattle.record_parts.proofs.Handed.{header_inside, header_handed_lem}
use Rattle.record_parts.proofs.header_content.Goals as goal

pub taken-requires-in-Ok : goal.taken-requires-in-Ok
taken-requires-in-Ok c =
    let read = c.read_header in
    header_inside _ read.result read.ensures c.in-Ok.part c.in-Ok.is

pub returns-in-Ok : goal.returns-in-Ok
returns-in-Ok c =
    let read = c.read_header in
    header_handed_lem _ read.result read.ensures c.in-Ok.part c.in-Ok.is _ c.taken-in-Ok.ensures
