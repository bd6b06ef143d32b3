-- `c_encoding::answers::give_hash` meets its contract, by the case of the answer.
use mathlib.Core.Path.{refl}
use Rattle.c_encoding.proofs.answers.give_hash.Goals as goal

pub returns-in-Err : goal.returns-in-Err
returns-in-Err c = rw c.in-Err.is (record { answers = c.refused.ensures; gives = refl })
