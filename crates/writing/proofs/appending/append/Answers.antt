-- `writing::appending::append` meets its contract. Assumes nothing.
use Rattle.std.proofs.lemmas.Result.{err_from_is_err_and}
use Rattle.writing.proofs.Answers.{store_fits, append_not, append_done}
use Rattle.writing.proofs.appending.append.Goals as goal

pub store-requires : goal.store-requires
store-requires c = store_fits _ c.args.chunk.now c.in_ok-judge.was c.judge.ensures

pub returns-in_err-judge : goal.returns-in_err-judge
returns-in_err-judge c =
    let p = err_from_is_err_and c.from_residual.result c.from_residual.ensures.1 in
    rw (p.1, p.2) (append_not c.in_err-judge.was c.judge.ensures)

pub returns : goal.returns
returns c = append_done c.in_ok-judge.was c.judge.ensures c.store.ensures
