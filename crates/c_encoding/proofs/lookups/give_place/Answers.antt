-- `c_encoding::lookups::give_place` meets its contract, by the case of the answer.
use mathlib.Core.Path.{sym, ap}
use Rattle.lookup.specs.Meaning.{placed_of}
use Rattle.c_encoding.proofs.Laws.{gives_refused, gives_found}
use Rattle.c_encoding.proofs.lookups.give_place.Goals as goal

pub returns-in-Err : goal.returns-in-Err
returns-in-Err c = gives_refused _ c.in-Err.refusal _ _ c.refused.ensures (sym (ap placed_of c.in-Err.is))

pub returns-in-Ok : goal.returns-in-Ok
returns-in-Ok c = gives_found _ c.in-Ok.placed.start.0 c.in-Ok.placed.length _ _ c.encode.ensures (sym (ap placed_of c.in-Ok.is))
