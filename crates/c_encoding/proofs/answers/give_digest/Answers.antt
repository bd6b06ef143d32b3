-- `c_encoding::answers::give_digest` meets its contract, by the case of the answer.
use mathlib.Core.Path.{refl}
use Rattle.c_encoding.proofs.answers.give_digest.Goals as goal

pub returns-in-Ok : goal.returns-in-Ok
returns-in-Ok c = rw c.in-Ok.is (record { answers = refl; gives = refl })

pub returns-in-Err : goal.returns-in-Err
returns-in-Err c = rw c.in-Err.is (record { answers = refl; gives = refl })
