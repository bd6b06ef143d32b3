-- `c_api::packets::sleep_flat_check_packet` meets its contract, by the case of the answer.
use mathlib.Core.Path.{sym, ap, ◌∙◌}
use Rattle.answer_types.specs.Meaning.{said}
use Rattle.blake2b.specs.Hash.{node_hash}
use Rattle.packet.specs.Check.{chunk_length}
use Rattle.packet.proofs.Right.{passed_shape}
use Rattle.c_encoding.proofs.Laws.{gives_refused, gives_found}
use Rattle.c_api.proofs.Laws.{packet_refused, packet_found}
use Rattle.c_api.proofs.packets.sleep_flat_check_packet.Goals as goal

pub read_be32-length-requires : goal.read_be32-length-requires
read_be32-length-requires c =
    let a = c.args in
    (passed_shape node_hash a.packet.now a.n a.chunk a.root.now
    (sym (ap said c.in-Ok.is) ∙ c.check_answer-said.ensures)).front

pub returns-in-Err : goal.returns-in-Err
returns-in-Err c =
    let a = c.args in
    gives_refused _ c.in-Err.refusal _ _ c.refused.ensures
    (packet_refused a.packet.now a.n a.chunk a.root.now c.in-Err.refusal
    (sym (ap said c.in-Err.is) ∙ c.check_answer-said.ensures))

pub returns-in-Ok : goal.returns-in-Ok
unfolding chunk_length
returns-in-Ok c =
    let a = c.args in
    gives_found _ _ _ _ _ c.encode.ensures
    (packet_found a.packet.now a.n a.chunk a.root.now _ c.read_be32-length.ensures
    (sym (ap said c.in-Ok.is) ∙ c.check_answer-said.ensures))
