-- `prefix_root::judge` meets its contract: the checks 2 to 6, and what comes behind them. Assumes nothing.
use Rattle.std.proofs.lemmas.Result.{err_from_is_err_and}
use Rattle.answer_types.specs.Meaning.{said}
use Rattle.prefix_root.proofs.Calls.{before_refused, behind_checks}
use Rattle.prefix_root.proofs.judge.Goals as goal

pub returns-in_err-judge : goal.returns-in_err-judge
returns-in_err-judge c =
    let p = err_from_is_err_and c.from_residual.result c.from_residual.ensures.1 in
    rw (p.1, p.2) (before_refused _ c.args.m c.judge.result c.judge.ensures c.in_err-judge.field-0.0 c.in_err-judge.was)

pub returns : goal.returns
returns c =
    behind_checks _ c.args.m c.judge.result c.judge.ensures c.in_ok-judge.was
    (said c.up_to.result) c.up_to.ensures
