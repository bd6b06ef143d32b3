-- `search::search` meets its contract: the checks 2 to 6, and what comes behind them. Assumes nothing.
use mathlib.Core.Path.{sym, ◌∙◌}
use Rattle.answer_types.specs.Meaning.{said}
use Rattle.search.proofs.Answers.{search_by, search_room}
use Rattle.search.proofs.search.Goals as goal

pub search_behind-requires : goal.search_behind-requires
search_behind-requires c = λ e. search_room _ c.args.from.0 (sym e ∙ c.judge-checked.ensures)

pub returns : goal.returns
returns c = c.search_behind.ensures ∙ search_by _ c.args.from.0 (said c.judge-checked.result) c.judge-checked.ensures
