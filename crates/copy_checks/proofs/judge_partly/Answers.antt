-- `copy_checks::judge_partly` meets its contract. Assumes nothing.
use Rattle.std.proofs.lemmas.Result.{err_from_is_err_and}
use mathlib.Core.Path.{sym, ap, ◌∙◌}
use Rattle.answer_types.specs.Meaning.{said, spot_of}
use Rattle.copy_checks.specs.Checks.{unknown_root}
use Rattle.lookup.specs.Unknown.{first_entry}
use Rattle.copy_checks.proofs.Steps.{lent_of, bits_in, roots_in, partly_refused, partly_unknown, partly_known}
use Rattle.copy_checks.proofs.judge_partly.Goals as goal

pub unknown_root-requires : goal.unknown_root-requires
unknown_root-requires c = bits_in _ (lent_of _ (sym (ap said c.in_ok-judge_lent.was) ∙ c.judge_lent.ensures))

pub judge_size-requires : goal.judge_size-requires
judge_size-requires c = roots_in _ (lent_of _ (sym (ap said c.in_ok-judge_lent.was) ∙ c.judge_lent.ensures))

pub returns-in_err-judge_lent : goal.returns-in_err-judge_lent
returns-in_err-judge_lent c =
    let p = err_from_is_err_and c.from_residual.result c.from_residual.ensures.1 in
    rw (p.1, p.2) (partly_refused _ c.in_err-judge_lent.field-0.0.number (spot_of c.in_err-judge_lent.field-0.0.place) (sym (ap said c.in_err-judge_lent.was) ∙ c.judge_lent.ensures))

pub returns-in-Some : goal.returns-in-Some
unfolding unknown_root
returns-in-Some c =
    partly_unknown _ (sym (ap said c.in_ok-judge_lent.was) ∙ c.judge_lent.ensures) c.in-Some.field-0.0 (sym (ap first_entry c.in-Some.is) ∙ c.unknown_root.ensures)

pub returns-in-None : goal.returns-in-None
unfolding unknown_root
returns-in-None c =
    partly_known _ (sym (ap said c.in_ok-judge_lent.was) ∙ c.judge_lent.ensures) (said c.judge_size.result)
    (sym (ap first_entry c.in-None.is) ∙ c.unknown_root.ensures) c.judge_size.ensures
