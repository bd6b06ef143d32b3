-- `copy_take_in::take_in` meets its contract. Assumes nothing.
use Rattle.std.proofs.lemmas.Result.{err_from_is_err_and}
use mathlib.Core.Path.{sym, ap, ◌∙◌}
use Rattle.answer_types.specs.Meaning.{said, spot_of}
use Rattle.blake2b.specs.Hash.{node_hash}
use Rattle.packet.proofs.Right.{handed_by}
use Rattle.copy_take_in.proofs.Stages.{room, take_not, take_done}
use Rattle.copy_take_in.proofs.Written.{sizeless}
use Rattle.copy_take_in.proofs.take_in.Goals as goal

pub take_checked-requires : goal.take_checked-requires
take_checked-requires c =
    let a = c.args in
    let e = sym (ap said c.in_ok-answer.was) ∙ c.judge-judged.ensures.judged in record {
      room = room node_hash _ a.packet.now a.chunk.0 a.root.now e;
      led = handed_by node_hash a.packet.now a.n a.chunk.0 (sym e) c.judge-judged.ensures.led;
    }

pub returns-in_err-answer : goal.returns-in_err-answer
returns-in_err-answer c =
    let p = err_from_is_err_and c.from_residual.result c.from_residual.ensures.1 in
    rw (p.1, p.2) (take_not node_hash _ c.args.packet.now c.args.chunk.0 c.args.root.now c.in_err-answer.field-0.0.number (spot_of c.in_err-answer.field-0.0.place)
    (sym (ap said c.in_err-answer.was) ∙ c.judge-judged.ensures.judged))

pub returns : goal.returns
returns c =
    let taken = c.take_checked in
    let a = c.args in
    take_done node_hash _ a.packet.now a.chunk.0 a.root.now (said taken.result) _ (sym (ap said c.in_ok-answer.was) ∙ c.judge-judged.ensures.judged)
    (sizeless node_hash a.tree.now a.bitfield.now a.content.now a.packet.now a.n a.size a.chunk.0 _ _ taken.ensures)
