-- `copy_checks::judge_size` meets its contract. Assumes nothing.
use mathlib.Core.Bool.{Bool, cond}
use mathlib.Core.Path.{sym, ap, ◌∙◌}
use Rattle.answer_types.specs.Verdict.{none, done, refused}
use Rattle.checks.specs.Checks.{judged, adds_up}
use Rattle.copy_checks.proofs.judge_size.Goals as goal

pub returns-then-adds_up : goal.returns-then-adds_up
unfolding judged adds_up
returns-then-adds_up c = sym (ap (λ (b : Bool). cond b done (refused 6 none)) (sym c.adds_up.ensures ∙ c.if-adds_up.true))

pub returns : goal.returns
unfolding judged adds_up
returns c = c.refuse.ensures ∙ sym (ap (λ (b : Bool). cond b done (refused 6 none)) (sym c.adds_up.ensures ∙ c.if-adds_up.false))
