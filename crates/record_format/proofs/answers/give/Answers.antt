-- Room or none.
use mathlib.Core.Path.{refl}
use Rattle.record_format.proofs.Whole.{written_14, written_done}
use Rattle.record_format.proofs.answers.give.Goals as goal

pub returns-then-out-bytes : goal.returns-then-out-bytes
returns-then-out-bytes c =
    let a = c.args in
    written_14 (Unit {0}) a.bytes.now a.out.now c.refusal.result c.refusal.ensures tt c.if-out-bytes.true

pub returns : goal.returns
returns c =
    let a = c.args in
    written_done (Unit {0}) a.bytes.now a.out.now _ _ tt c.if-out-bytes.false refl c.copy_to.ensures
