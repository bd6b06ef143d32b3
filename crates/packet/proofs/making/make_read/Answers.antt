-- `packet::making::make_read` meets its contract. Assumes nothing.
use Rattle.packet.specs.Packet.{packet_with}
use Rattle.packet.proofs.Makes.{no_room, made_whole}
use Rattle.packet.proofs.making.make_read.Goals as goal

pub returns-then-out-needed : goal.returns-then-out-needed
returns-then-out-needed c =
    let a = c.args in
    no_room (packet_with a.tree.now a.n a.chunk.0 a.bytes.now) a.out.now c.packet_length-needed.result c.packet_length-needed.ensures c.if-out-needed.true

pub returns : goal.returns
returns c =
    let a = c.args in
    made_whole (packet_with a.tree.now a.n a.chunk.0 a.bytes.now) a.out.now c.packet_length-needed.result c.packet_length-needed.ensures
    c.if-out-needed.false c.write_packet.new.out c.write_packet.ensures
