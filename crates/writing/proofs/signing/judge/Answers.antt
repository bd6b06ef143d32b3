-- `writing::signing::judge` meets its contract. Assumes nothing.
use Rattle.std.proofs.lemmas.Result.{err_from_is_err_and}
use Rattle.answer_types.specs.Verdict.{done}
use Rattle.checks.specs.Checks.{judged, register_checks}
use Rattle.writing.specs.Sign.{own_sign_checks}
use Rattle.writing.proofs.Answers.{counts_right}
use Rattle.writing.proofs.Orders.{sign_by, refused_before, passed_before}
use Rattle.writing.proofs.signing.judge.Goals as goal

pub judge_own-requires : goal.judge_own-requires
judge_own-requires c = counts_right _ c.in_ok-judge.was c.judge.ensures

pub returns-in_err-judge : goal.returns-in_err-judge
returns-in_err-judge c =
    let p = err_from_is_err_and c.from_residual.result c.from_residual.ensures.1 in
    rw (p.1, p.2) (let a = c.args in
    sign_by _
    (refused_before (register_checks _) (judged (own_sign_checks a.signatures.now a.n a.s) done)
    c.in_err-judge.was c.judge.ensures))

pub returns : goal.returns
returns c = sign_by _ (passed_before (register_checks _) c.in_ok-judge.was c.judge.ensures c.judge_own.ensures)
