-- `short_lookup::place` meets its contract: the checks 2 to 6, and what comes behind them. Assumes nothing.
use mathlib.Core.Path.{sym, ◌∙◌}
use Rattle.answer_types.specs.Meaning.{said}
use Rattle.short_lookup.proofs.Calls.{place_by, files_in_lem}
use Rattle.short_lookup.proofs.place.Goals as goal

pub place_behind-requires : goal.place_behind-requires
place_behind-requires c = λ e. files_in_lem _ (sym e ∙ c.judge-checked.ensures)

pub returns : goal.returns
returns c = c.place_behind.ensures ∙ place_by _ (said c.judge-checked.result) c.judge-checked.ensures c.args.chunk.0
