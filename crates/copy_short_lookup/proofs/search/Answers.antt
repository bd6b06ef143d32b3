-- `copy_short_lookup::search` meets its contract: the checks of a copy, and what comes behind them. Assumes nothing.
use mathlib.Core.Path.{sym, ◌∙◌}
use Rattle.answer_types.specs.Meaning.{said}
use Rattle.copy_checks.specs.Copy.{Copy, copy_of}
use Rattle.copy_short_lookup.proofs.Calls.{search_by, bits_room}
use Rattle.copy_short_lookup.proofs.search.Goals as goal

pub search_behind-requires : goal.search_behind-requires
search_behind-requires c =
    let given : Copy = copy_of c.args.tree.now c.args.bitfield.now c.args.content.now c.args.n c.args.size in
    λ e. bits_room given (sym e ∙ c.judge-checked.ensures)

pub returns : goal.returns
returns c =
    let given : Copy = copy_of c.args.tree.now c.args.bitfield.now c.args.content.now c.args.n c.args.size in
    c.search_behind.ensures ∙ search_by given (said c.judge-checked.result) c.judge-checked.ensures c.args.from.0
