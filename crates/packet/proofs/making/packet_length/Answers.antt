-- `packet::making::packet_length` meets its contract. Assumes nothing.
use Rattle.packet.proofs.Rows.{packet_long}
use Rattle.packet.proofs.making.packet_length.Goals as goal

pub returns : goal.returns
returns c =
    let a = c.args in
    packet_long a.tree.now a.n a.chunk.0 a.bytes.now c.requires c.sibling_count-up.result c.other_count-others.result
    c.sibling_count-up.ensures.same c.other_count-others.ensures.same
