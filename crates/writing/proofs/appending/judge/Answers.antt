-- `writing::appending::judge` meets its contract. Assumes nothing.
use Rattle.std.proofs.lemmas.Result.{err_from_is_err_and}
use Rattle.answer_types.specs.Verdict.{done}
use Rattle.checks.specs.Checks.{judged, later_checks}
use Rattle.writing.specs.Append.{own_checks}
use Rattle.writing.proofs.Answers.{data_inside}
use Rattle.writing.proofs.Orders.{append_over, append_within, refused_before, passed_before}
use Rattle.writing.proofs.appending.judge.Goals as goal

pub returns-then-n-ge1048576 : goal.returns-then-n-ge1048576
returns-then-n-ge1048576 c = append_over _ c.args.chunk.now c.if-n-ge1048576.true c.refuse.ensures

pub judge_own-requires : goal.judge_own-requires
judge_own-requires c = (c.if-n-ge1048576.false, data_inside _ c.in_ok-judge_later.was c.judge_later.ensures)

pub returns-in_err-judge_later : goal.returns-in_err-judge_later
returns-in_err-judge_later c =
    let p = err_from_is_err_and c.from_residual.result c.from_residual.ensures.1 in
    rw (p.1, p.2) (append_within _ c.args.chunk.now c.if-n-ge1048576.false
    (refused_before (later_checks _) (judged (own_checks _ c.args.chunk.now) done) c.in_err-judge_later.was c.judge_later.ensures))

pub returns : goal.returns
returns c =
    append_within _ c.args.chunk.now c.if-n-ge1048576.false
    (passed_before (later_checks _) c.in_ok-judge_later.was c.judge_later.ensures c.judge_own.ensures)
