-- Nothing, or the part that was chosen, of the Node that was read.
use Rattle.record_parts.proofs.Handed.{chosen_inside, node_handed_lem}
use Rattle.record_parts.proofs.node_part.Goals as goal

pub taken-requires-in-Ok : goal.taken-requires-in-Ok
taken-requires-in-Ok c =
    let read = c.read_node in
    let a = c.args in
    chosen_inside a.bytes.now read.result read.ensures c.in-Ok.node c.in-Ok.is a.field c.chosen.result c.chosen.ensures

pub returns-in-Ok : goal.returns-in-Ok
returns-in-Ok c =
    let read = c.read_node in
    let a = c.args in
    node_handed_lem a.bytes.now read.result read.ensures c.in-Ok.node c.in-Ok.is a.field c.chosen.result c.chosen.ensures _
    c.taken-in-Ok.ensures
