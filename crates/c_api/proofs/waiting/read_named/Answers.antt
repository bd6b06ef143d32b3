-- `c_api::waiting::read_named` meets its contract, by the case of the name.
use Rattle.c_api.proofs.Turns.{gives_named}
use Rattle.c_api.proofs.waiting.read_named.Goals as goal

pub returns-in-Metadata : goal.returns-in-Metadata
returns-in-Metadata c = gives_named _ _ _ _ _ _ _ _ c.in-Metadata.is c.sleep_flat_read.ensures

pub returns-in-Content : goal.returns-in-Content
returns-in-Content c = gives_named _ _ _ _ _ _ _ _ c.in-Content.is c.sleep_flat_read-in-Content.ensures
