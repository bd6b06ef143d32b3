-- `c_encoding::answers::encode` meets its contract, by the case of the answer.
use mathlib.Core.Path.{◌∙◌}
use Rattle.c_encoding.proofs.Laws.{said_as}
use Rattle.c_encoding.proofs.answers.encode.Goals as goal

pub returns-in-Ok : goal.returns-in-Ok
returns-in-Ok c = said_as _ _ c.in-Ok.is

pub returns-in-Err : goal.returns-in-Err
returns-in-Err c = c.refused.ensures ∙ said_as _ _ c.in-Err.is
