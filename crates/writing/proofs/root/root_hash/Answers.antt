-- `writing::root::root_hash` meets its contract. Assumes nothing.
use Rattle.std.proofs.lemmas.Result.{err_from_is_err_and}
use Rattle.writing.proofs.Answers.{root_fits, root_not, root_done_lem}
use Rattle.writing.proofs.root.root_hash.Goals as goal

pub stored_root_hash-requires : goal.stored_root_hash-requires
stored_root_hash-requires c = root_fits _ c.in_ok-judge.was c.judge.ensures

pub returns-in_err-judge : goal.returns-in_err-judge
returns-in_err-judge c =
    let p = err_from_is_err_and c.from_residual.result c.from_residual.ensures.1 in
    rw (p.1, p.2) (root_not c.in_err-judge.was c.judge.ensures)

pub returns : goal.returns
returns c = root_done_lem c.in_ok-judge.was c.judge.ensures c.stored_root_hash.ensures
