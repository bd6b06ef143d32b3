-- `writing::signing::store_signature` meets its contract. Assumes nothing.
use Rattle.std.proofs.lemmas.Result.{err_from_is_err_and}
use native.Mathlib.Omega.{arith}
use Rattle.writing.proofs.Answers.{sign_fits, sign_not, sign_done}
use Rattle.writing.proofs.signing.store_signature.Goals as goal

pub used_signatures-at-requires : goal.used_signatures-at-requires
used_signatures-at-requires c = (sign_fits _ c.in_ok-judge.was c.judge.ensures).0

pub copy_to-requires : goal.copy_to-requires
copy_to-requires c = omega (arith, c.used_signatures-at.ensures, (sign_fits _ c.in_ok-judge.was c.judge.ensures).1)

pub returns-in_err-judge : goal.returns-in_err-judge
returns-in_err-judge c =
    let p = err_from_is_err_and c.from_residual.result c.from_residual.ensures.1 in
    rw (p.1, p.2) (sign_not c.in_err-judge.was c.judge.ensures)

pub returns : goal.returns
returns c =
    sign_done c.in_ok-judge.was c.judge.ensures
    c.used_signatures-at.ensures c.copy_to.ensures
