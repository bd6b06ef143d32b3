-- `copy_roots::search` meets its contract: the checks of a copy, and what comes behind them. Assumes nothing.
use mathlib.Core.Path.{sym, ◌∙◌}
use Rattle.answer_types.specs.Meaning.{said}
use Rattle.copy_checks.specs.Copy.{Copy, copy_of}
use Rattle.copy_roots.proofs.Calls.{search_by, search_room}
use Rattle.copy_roots.proofs.search.Goals as goal

pub search_behind-requires : goal.search_behind-requires
search_behind-requires c =
    let given : Copy = copy_of c.args.tree.now c.args.bitfield.now c.args.content.now c.args.n c.args.size in
    λ e. search_room given c.args.from.0 (sym e ∙ c.judge-checked.ensures)

pub returns : goal.returns
returns c =
    let given : Copy = copy_of c.args.tree.now c.args.bitfield.now c.args.content.now c.args.n c.args.size in
    c.search_behind.ensures ∙ search_by given c.args.from.0 (said c.judge-checked.result) c.judge-checked.ensures
