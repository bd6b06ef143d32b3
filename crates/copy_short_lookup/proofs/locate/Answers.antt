-- `copy_short_lookup::locate` meets its contract: the checks of a copy, and what comes behind them. Assumes nothing.
use mathlib.Core.Path.{sym, ◌∙◌}
use Rattle.answer_types.specs.Meaning.{said}
use Rattle.copy_checks.specs.Copy.{Copy, copy_of}
use Rattle.copy_short_lookup.proofs.Calls.{byte_by, files_in_lem}
use Rattle.copy_short_lookup.proofs.locate.Goals as goal

pub locate_behind-requires : goal.locate_behind-requires
locate_behind-requires c =
    let given : Copy = copy_of c.args.tree.now c.args.bitfield.now c.args.content.now c.args.n c.args.size in
    λ e. files_in_lem given (sym e ∙ c.judge-checked.ensures)

pub returns : goal.returns
returns c =
    let given : Copy = copy_of c.args.tree.now c.args.bitfield.now c.args.content.now c.args.n c.args.size in
    c.locate_behind.ensures ∙ byte_by given (said c.judge-checked.result) c.judge-checked.ensures c.args.offset.0
