-- `copy_roots::judge_old` meets its contract. Assumes nothing.
use Rattle.std.proofs.lemmas.Result.{err_from_is_err_and}
use mathlib.Core.Path.{sym, ap, ◌∙◌}
use Rattle.answer_types.specs.Meaning.{said, spot_of}
use Rattle.copy_roots.proofs.Calls.{old_refused, old_above, old_bits, old_judged}
use Rattle.copy_roots.proofs.judge_old.Goals as goal

pub roots_known-requires : goal.roots_known-requires
roots_known-requires c =
    old_bits _ c.args.m (sym (ap said c.in_ok-judge.was) ∙ c.judge.ensures) (sym (ap said c.in_ok-up_to.was) ∙ c.up_to.ensures)

pub returns-in_err-judge : goal.returns-in_err-judge
returns-in_err-judge c =
    let p = err_from_is_err_and c.from_residual.result c.from_residual.ensures.1 in
    let r = c.in_err-judge.field-0.0 in
    rw (p.1, p.2) (old_refused _ c.args.m r.number (spot_of r.place) (sym (ap said c.in_err-judge.was) ∙ c.judge.ensures))

pub returns-in_err-up_to : goal.returns-in_err-up_to
returns-in_err-up_to c =
    let p = err_from_is_err_and c.from_residual-in_err-up_to.result c.from_residual-in_err-up_to.ensures.1 in
    let r = c.in_err-up_to.field-0.0 in
    rw (p.1, p.2) (old_above _ c.args.m (sym (ap said c.in_ok-judge.was) ∙ c.judge.ensures) r.number (spot_of r.place)
    (sym (ap said c.in_err-up_to.was) ∙ c.up_to.ensures))

pub returns : goal.returns
returns c =
    old_judged _ c.args.m (sym (ap said c.in_ok-judge.was) ∙ c.judge.ensures)
    (sym (ap said c.in_ok-up_to.was) ∙ c.up_to.ensures) (said c.roots_known.result) c.roots_known.ensures
