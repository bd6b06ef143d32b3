-- `c_encoding::lookups::give_part` meets its contract, by the case of the answer.
use mathlib.Core.Path.{sym, ap}
use Rattle.lookup.specs.Meaning.{verified_of}
use Rattle.c_encoding.specs.Encoding.{as_part}
use Rattle.c_encoding.proofs.Laws.{gives_refused, gives_found}
use Rattle.c_encoding.proofs.lookups.give_part.Goals as goal

pub overflow_sub-out : goal.overflow_sub-out
overflow_sub-out c = c.requires _ _ (ap verified_of c.in-Ok.is)

pub returns-in-Err : goal.returns-in-Err
returns-in-Err c = gives_refused _ c.in-Err.refusal _ _ c.refused.ensures (ap as_part (sym (ap verified_of c.in-Err.is)))

pub returns-in-Ok : goal.returns-in-Ok
returns-in-Ok c = gives_found _ _ _ _ _ c.encode.ensures (ap as_part (sym (ap verified_of c.in-Ok.is)))
