-- `short_lookup::locate` meets its contract: the checks 2 to 6, and what comes behind them. Assumes nothing.
use mathlib.Core.Path.{sym, ◌∙◌}
use Rattle.answer_types.specs.Meaning.{said}
use Rattle.short_lookup.proofs.Calls.{byte_by, files_in_lem}
use Rattle.short_lookup.proofs.locate.Goals as goal

pub locate_behind-requires : goal.locate_behind-requires
locate_behind-requires c = λ e. files_in_lem _ (sym e ∙ c.judge-checked.ensures)

pub returns : goal.returns
returns c = c.locate_behind.ensures ∙ byte_by _ (said c.judge-checked.result) c.judge-checked.ensures c.args.offset.0
