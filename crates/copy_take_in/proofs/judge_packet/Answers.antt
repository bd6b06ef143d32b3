-- `copy_take_in::judge_packet` meets its contract. Assumes nothing.
use mathlib.Core.Path.{sym, ap, ◌∙◌}
use mathlib.Core.Bool.{Bool, cond}
use Rattle.answer_types.specs.Verdict.{none, done, refused}
use Rattle.answer_types.specs.Meaning.{said, spot_of}
use Rattle.blake2b.specs.Hash.{node_hash}
use Rattle.packet.proofs.Right.{handed_by}
use Rattle.copy_take_in.proofs.Stages.{packet_refused, packet_total_lem, packet_fits}
use Rattle.copy_take_in.proofs.judge_packet.Goals as goal

pub total_right-requires : goal.total_right-requires
total_right-requires c =
    let a = c.args in
    packet_fits node_hash a.packet.now a.n a.size a.chunk.0 a.root.now (sym (ap said c.in-Ok.is) ∙ c.check_hashing-checked.ensures.judged)

pub returns-in-Err : goal.returns-in-Err
returns-in-Err c =
    let a = c.args in
    let e = packet_refused node_hash a.packet.now a.n a.size a.chunk.0 a.root.now c.in-Err.refusal.number (spot_of c.in-Err.refusal.place)
    (sym (ap said c.in-Err.is) ∙ c.check_hashing-checked.ensures.judged) in record {
      judged = ap said c.unhashed.ensures.same ∙ e;
      led = handed_by node_hash a.packet.now a.n a.chunk.0 e c.unhashed.ensures.empty;
    }

pub returns-then-total_right : goal.returns-then-total_right
returns-then-total_right c =
    let a = c.args in
    let told = ap said c.in-Ok.is in
    let e = sym told ∙ c.check_hashing-checked.ensures.judged in
    let w = packet_total_lem node_hash a.packet.now a.n a.size a.chunk.0 a.root.now e done c.total_right.result c.total_right.ensures
    (sym (ap (λ (b : Bool). cond b done (refused 6 none)) c.if-total_right.true)) in record {
      judged = told ∙ w;
      led = handed_by node_hash a.packet.now a.n a.chunk.0 (sym e ∙ w) c.check_hashing-checked.ensures.led;
    }

pub returns-else-total_right : goal.returns-else-total_right
returns-else-total_right c =
    let a = c.args in
    let w = packet_total_lem node_hash a.packet.now a.n a.size a.chunk.0 a.root.now
    (sym (ap said c.in-Ok.is) ∙ c.check_hashing-checked.ensures.judged) (refused 6 none) c.total_right.result
    c.total_right.ensures (sym (ap (λ (b : Bool). cond b done (refused 6 none)) c.if-total_right.false)) in record {
      judged = ap said c.unhashed-else-total_right.ensures.same ∙ c.refuse.ensures ∙ w;
      led = handed_by node_hash a.packet.now a.n a.chunk.0 w c.unhashed-else-total_right.ensures.empty;
    }
