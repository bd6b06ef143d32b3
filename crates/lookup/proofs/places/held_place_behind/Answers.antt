-- `lookup::places::held_place_behind` meets its contract: the answer of the checks is handed on, or what comes behind them is. Assumes nothing.
use mathlib.Core.Path.{ap}
use Rattle.answer_types.specs.Meaning.{said}
use Rattle.lookup.proofs.places.held_place_behind.Goals as goal

pub held_place_in-requires : goal.held_place_in-requires
held_place_in-requires c = c.requires (ap said c.in_ok-checked.was)
