-- `short_lookup::place_behind` meets its contract: the answer of the checks is handed on, or what comes behind them is. Assumes nothing.
use Rattle.std.proofs.lemmas.Result.{err_from_is_err_and}
use mathlib.Core.Path.{sym, ap, ◌∙◌}
use Rattle.answer_types.specs.Verdict.{Verdict}
use Rattle.answer_types.specs.Meaning.{said}
use Rattle.lookup.specs.Lookup.{Found, found_behind}
use Rattle.lookup.specs.Inner.{known_if}
use Rattle.short_lookup.specs.ShortLookup.{short_place_in}
use Rattle.short_lookup.proofs.place_behind.Goals as goal

pub place_in-requires : goal.place_in-requires
place_in-requires c = c.requires (ap said c.in_ok-checked.was)

pub returns-in_err-checked : goal.returns-in_err-checked
returns-in_err-checked c =
    let answer : Verdict → Found = λ v. let a = c.args in found_behind v (short_place_in (known_if a.partly a.bitfield.now) a.tree.now a.n a.chunk.0) in
    let p = err_from_is_err_and c.from_residual.result c.from_residual.ensures.1 in
    rw (p.1, p.2) (sym (ap answer (ap said c.in_err-checked.was)))

pub returns : goal.returns
returns c =
    let answer : Verdict → Found = λ v. let a = c.args in found_behind v (short_place_in (known_if a.partly a.bitfield.now) a.tree.now a.n a.chunk.0) in
    c.place_in.ensures ∙ sym (ap answer (ap said c.in_ok-checked.was))
