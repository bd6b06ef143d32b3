-- `lookup::places::locate_behind` meets its contract: the answer of the checks is handed on, or what comes behind them is. Assumes nothing.
use mathlib.Core.Path.{ap}
use Rattle.answer_types.specs.Meaning.{said}
use Rattle.lookup.proofs.places.locate_behind.Goals as goal

pub locate_in-requires : goal.locate_in-requires
locate_in-requires c = c.requires (ap said c.in_ok-checked.was)
