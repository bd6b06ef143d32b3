-- `append_list::append_list` meets its contract. Assumes nothing.
use Rattle.std.proofs.lemmas.Result.{err_from_is_err_and}
use Rattle.append_list.proofs.Answers.{store_fits, list_not, list_done}
use Rattle.append_list.proofs.append_list.Goals as goal

pub store-requires : goal.store-requires
store-requires c = store_fits _ c.args.lengths.now c.args.bytes.now c.judge.result c.judge.ensures c.in_ok-judge.was

pub returns-in_err-judge : goal.returns-in_err-judge
returns-in_err-judge c =
    let p = err_from_is_err_and c.from_residual.result c.from_residual.ensures.1 in
    rw (p.1, p.2) (list_not _ c.args.lengths.now c.args.bytes.now c.judge.result c.judge.ensures c.in_err-judge.field-0.0 c.in_err-judge.was)

pub returns : goal.returns
returns c =
    list_done _ c.args.lengths.now c.args.bytes.now c.judge.result c.judge.ensures _ _ _ _ _
    c.in_ok-judge.was c.store.ensures
