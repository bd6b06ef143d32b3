-- `c_api::waiting::sleep_flat_serve` meets its contract, by the case of the turn.
use mathlib.Core.Path.{sym, ap, ◌∙◌}
use Rattle.station_queue.specs.Post.{turn_of}
use Rattle.lookup.specs.Meaning.{name_of}
use Rattle.c_api.proofs.Turns.{hands_nobody, hands_turn}
use Rattle.c_api.proofs.waiting.sleep_flat_serve.Goals as goal

pub returns-in-None : goal.returns-in-None
returns-in-None c = hands_nobody _ _ _ _ _ c.leave.ensures (sym (ap turn_of c.in-None.is) ∙ c.next-turn.ensures)

pub returns-in-Some : goal.returns-in-Some
returns-in-Some c =
    hands_turn _ _ _ _ _ c.leave.ensures c.in-Some.turn.station (record { register = c.in-Some.turn.register; chunk = c.in-Some.turn.chunk.0 }) (name_of c.named_by-name.result) _ _ _
    (sym (ap turn_of c.in-Some.is) ∙ c.next-turn.ensures) c.named_by-name.ensures c.number_of-named.ensures c.read_named.ensures
