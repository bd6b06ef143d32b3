-- `short_lookup::search` meets its contract: the checks 2 to 6, and what comes behind them. Assumes nothing.
use mathlib.Core.Path.{sym, ◌∙◌}
use Rattle.answer_types.specs.Meaning.{said}
use Rattle.short_lookup.proofs.Calls.{search_by, bits_room}
use Rattle.short_lookup.proofs.search.Goals as goal

pub search_behind-requires : goal.search_behind-requires
search_behind-requires c = λ e. bits_room _ (sym e ∙ c.judge-checked.ensures)

pub returns : goal.returns
returns c = c.search_behind.ensures ∙ search_by _ (said c.judge-checked.result) c.judge-checked.ensures c.args.from.0
