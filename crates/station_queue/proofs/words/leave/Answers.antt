-- `station_queue::words::leave` meets its contract: the station whose turn it is has a read. Assumes nothing.
use mathlib.Core.Path.{sym, ap, ◌∙◌}
use Rattle.station_queue.specs.Post.{turn_of}
use Rattle.station_queue.proofs.Calls.{has_turn, nobody_left, one_left}
use Rattle.station_queue.proofs.words.leave.Goals as goal

pub drop_first-requires : goal.drop_first-requires
drop_first-requires c = (
  c.requires,
  has_turn c.args.table.now c.in-Some.turn.station (record { register = c.in-Some.turn.register; chunk = c.in-Some.turn.chunk.0 })
      (sym (ap turn_of c.in-Some.is) ∙ c.next.ensures),
)

pub returns-in_default : goal.returns-in_default
returns-in_default c = nobody_left c.args.table.now (sym (ap turn_of c.in_default.is) ∙ c.next.ensures)

pub returns-in-Some : goal.returns-in-Some
returns-in-Some c =
    one_left c.args.table.now c.drop_first.new.table c.in-Some.turn.station (record { register = c.in-Some.turn.register; chunk = c.in-Some.turn.chunk.0 }) c.requires
    (sym (ap turn_of c.in-Some.is) ∙ c.next.ensures) c.drop_first.ensures
