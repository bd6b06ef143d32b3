-- `lookup::places::place_behind` meets its contract: the answer of the checks is handed on, or what comes behind them is. Assumes nothing.
use mathlib.Core.Path.{ap}
use Rattle.answer_types.specs.Meaning.{said}
use Rattle.lookup.proofs.places.place_behind.Goals as goal

pub place_in-requires : goal.place_in-requires
place_in-requires c = c.requires (ap said c.in_ok-checked.was)
