-- By the case of the answer.
use Rattle.std.proofs.lemmas.Result.{err_from_is_err_and}
use Rattle.append_needs.proofs.Answers.{asked_of, need_not, need_done}
use Rattle.append_needs.proofs.needs.Goals as goal

pub counted-requires : goal.counted-requires
counted-requires c =
    let a = c.args in
    asked_of a.n a.size a.lengths.now c.judge.result c.judge.ensures c.in_ok-judge.was

pub returns-in_err-judge : goal.returns-in_err-judge
returns-in_err-judge c =
    let a = c.args in
    let p = err_from_is_err_and c.from_residual.result c.from_residual.ensures.1 in
    rw (p.1, p.2) (need_not a.n a.size a.lengths.now c.judge.result c.judge.ensures c.in_err-judge.field-0.0 c.in_err-judge.was)

pub returns : goal.returns
returns c =
    let a = c.args in
    need_done a.n a.size a.lengths.now c.judge.result c.judge.ensures c.counted.result c.in_ok-judge.was c.counted.ensures
