-- `c_api::jobs::sleep_flat_needs` meets its contract, by the case of the answer.
use Rattle.c_api.proofs.Laws.{needs_refused, needs_done}
use Rattle.c_api.proofs.jobs.sleep_flat_needs.Goals as goal

pub returns-in-Err : goal.returns-in-Err
returns-in-Err c = needs_refused _ _ _ _ _ _ c.needs.ensures c.in-Err.refusal c.in-Err.is c.refused.ensures

pub returns-in-Ok : goal.returns-in-Ok
returns-in-Ok c = needs_done _ _ _ _ _ _ c.needs.ensures c.in-Ok.needed c.in-Ok.is c.encode.ensures
