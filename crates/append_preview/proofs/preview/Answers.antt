-- `append_preview::preview` meets its contract. Assumes nothing.
use Rattle.std.proofs.lemmas.Result.{err_from_is_err_and}
use native.Mathlib.Omega.{arith}
use Rattle.append_preview.proofs.Answers.{root_fits, preview_not, preview_done}
use Rattle.append_preview.proofs.preview.Goals as goal

pub new_root-requires : goal.new_root-requires
new_root-requires c = root_fits _ c.args.chunk.now c.judge.result c.judge.ensures c.in_ok-judge.was (omega arith)

pub returns-in_err-judge : goal.returns-in_err-judge
returns-in_err-judge c =
    let p = err_from_is_err_and c.from_residual.result c.from_residual.ensures.1 in
    rw (p.1, p.2) (preview_not _ c.args.chunk.now c.judge.result c.judge.ensures c.in_err-judge.field-0.0 c.in_err-judge.was)

pub returns : goal.returns
returns c =
    preview_done _ c.args.chunk.now c.judge.result c.judge.ensures c.new_root.result c.in_ok-judge.was c.new_root.ensures
