-- `search::search_behind` meets its contract: the answer of the checks is handed on, or what comes behind them is. Assumes nothing.
use Rattle.std.proofs.lemmas.Result.{err_from_is_err_and}
use mathlib.Core.Path.{sym, ap, ◌∙◌}
use Rattle.answer_types.specs.Verdict.{Verdict}
use Rattle.answer_types.specs.Meaning.{said}
use Rattle.search.proofs.Steps.{answered}
use Rattle.search.specs.Search.{Sought, answer, sought_unless, first_missing}
use Rattle.search.proofs.search_behind.Goals as goal

pub by_runs-requires : goal.by_runs-requires
by_runs-requires c = c.requires (ap said c.in_ok-checked.was)

pub returns-in_err-checked : goal.returns-in_err-checked
returns-in_err-checked c =
    let behind : Verdict → Sought = λ v. sought_unless v (first_missing c.args.bitfield.now c.args.n c.args.from.0) in
    let p = err_from_is_err_and c.from_residual.result c.from_residual.ensures.1 in
    rw (p.1, p.2) (sym (ap behind (ap said c.in_err-checked.was)))

pub returns : goal.returns
unfolding first_missing
returns c =
    let behind : Verdict → Sought = λ v. sought_unless v (first_missing c.args.bitfield.now c.args.n c.args.from.0) in
    answered c.by_runs.result ∙ ap answer c.by_runs.ensures ∙ sym (ap behind (ap said c.in_ok-checked.was))
