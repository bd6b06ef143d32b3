-- `append_list::judging::judge` meets its contract. Assumes nothing.
use Rattle.std.proofs.lemmas.Result.{err_from_is_err_and}
use native.Mathlib.Omega.{arith}
use Rattle.checks.specs.Checks.{later_checks}
use Rattle.writing.proofs.Answers.{data_inside}
use Rattle.writing.proofs.Orders.{refused_before, passed_before}
use Rattle.append_list.specs.Inner.{own_verdict}
use Rattle.append_list.proofs.Orders.{list_over, list_past, list_within}
use Rattle.append_list.proofs.judging.judge.Goals as goal

pub returns-then-n-ge1048576 : goal.returns-then-n-ge1048576
returns-then-n-ge1048576 c = list_over _ c.args.lengths.now c.args.bytes.now c.if-n-ge1048576.true c.refuse.ensures

pub returns-then-n-lengths : goal.returns-then-n-lengths
returns-then-n-lengths c =
    list_past _ c.args.lengths.now c.args.bytes.now c.if-n-ge1048576.false
    (omega (arith, c.if-n-ge1048576.false, c.if-n-lengths.true)) c.refuse-then-n-lengths.ensures

pub judge_own-requires : goal.judge_own-requires
judge_own-requires c =
    (omega (arith, c.if-n-ge1048576.false, c.if-n-lengths.false), data_inside _ c.in_ok-judge_later.was c.judge_later.ensures)

pub returns-in_err-judge_later : goal.returns-in_err-judge_later
returns-in_err-judge_later c =
    let p = err_from_is_err_and c.from_residual.result c.from_residual.ensures.1 in
    rw (p.1, p.2) (list_within _ c.args.lengths.now c.args.bytes.now c.if-n-ge1048576.false (omega (arith, c.if-n-ge1048576.false, c.if-n-lengths.false))
    (refused_before (later_checks _) (own_verdict _ c.args.lengths.now c.args.bytes.now) c.in_err-judge_later.was c.judge_later.ensures))

pub returns : goal.returns
returns c =
    list_within _ c.args.lengths.now c.args.bytes.now c.if-n-ge1048576.false (omega (arith, c.if-n-ge1048576.false, c.if-n-lengths.false))
    (passed_before (later_checks _) c.in_ok-judge_later.was c.judge_later.ensures c.judge_own.ensures)
