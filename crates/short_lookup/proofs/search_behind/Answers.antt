-- `short_lookup::search_behind` meets its contract: the answer of the checks is handed on, or what comes behind them is. Assumes nothing.
use Rattle.std.proofs.lemmas.Result.{err_from_is_err_and}
use Prim.Native.Nat.{◌-◌}
use mathlib.Core.Path.{sym, ap, ◌∙◌}
use Rattle.answer_types.specs.Verdict.{Verdict}
use Rattle.answer_types.specs.Meaning.{said}
use Rattle.byte_strings.specs.Lowest.{lowest}
use Rattle.bitfield.specs.Release.{stored_held}
use Rattle.search.proofs.Steps.{answered}
use Rattle.search.specs.Search.{Sought, answer, sought_unless}
use Rattle.short_lookup.proofs.search_behind.Goals as goal

pub first_missing-requires : goal.first_missing-requires
first_missing-requires c = c.requires (ap said c.in_ok-checked.was)

pub returns-in_err-checked : goal.returns-in_err-checked
returns-in_err-checked c =
    let behind : Verdict → Sought = λ v. let a = c.args in sought_unless v (lowest (stored_held a.bitfield.now) a.from.0 (a.n - a.from.0)) in
    let p = err_from_is_err_and c.from_residual.result c.from_residual.ensures.1 in
    rw (p.1, p.2) (sym (ap behind (ap said c.in_err-checked.was)))

pub returns : goal.returns
returns c =
    let behind : Verdict → Sought = λ v. let a = c.args in sought_unless v (lowest (stored_held a.bitfield.now) a.from.0 (a.n - a.from.0)) in
    answered c.first_missing.result ∙ ap answer c.first_missing.ensures ∙ sym (ap behind (ap said c.in_ok-checked.was))
