-- `copy_take_in::judge` meets its contract. Assumes nothing.
use mathlib.Core.Path.{refl, ap, ◌∙◌}
use Rattle.answer_types.specs.Meaning.{said, spot_of}
use Rattle.blake2b.specs.Hash.{node_hash}
use Rattle.packet.proofs.Right.{handed_by}
use Rattle.copy_take_in.proofs.Stages.{judge_copy, judge_own_lem}
use Rattle.copy_take_in.proofs.judge.Goals as goal

pub returns-in-Err : goal.returns-in-Err
returns-in-Err c =
    let a = c.args in
    let e = judge_copy node_hash _ a.packet.now a.chunk.0 a.root.now c.in-Err.refusal.number (spot_of c.in-Err.refusal.place)
    c.in-Err.ensures in record {
      judged = ap said c.unhashed.ensures.same ∙ e;
      led = handed_by node_hash a.packet.now a.n a.chunk.0 e c.unhashed.ensures.empty;
    }

pub returns-in-Ok : goal.returns-in-Ok
returns-in-Ok c =
    let a = c.args in
    let e = judge_own_lem node_hash _ a.packet.now a.chunk.0 a.root.now c.in-Ok.ensures
    _ refl in record {
      judged = c.judge_packet.ensures.judged ∙ e;
      led = handed_by node_hash a.packet.now a.n a.chunk.0 e c.judge_packet.ensures.led;
    }
