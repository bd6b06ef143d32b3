-- `parts_audit::answers::earlier` meets its contract: case by case. Assumes nothing.
use Rattle.std.specs.Prelude.{Result, ⊤}
use Rattle.answer_types.specs.declared.Refusal.{Refusal}
use mathlib.Core.Path.{sym, ap, ap₂, ◌∙◌}
use mathlib.Core.Bool.{Bool, cond}
use Rattle.answer_types.specs.Meaning.{said, refusal_of}
use Rattle.parts_audit.specs.Together as spec
use Rattle.parts_audit.proofs.answers.earlier.Goals as goal

pub returns-in-Ok : goal.returns-in-Ok
unfolding spec.earlier
returns-in-Ok c = sym (ap (λ (x : Result ⊤ Refusal). spec.earlier (said x) (said c.args.b)) c.in-Ok.is)

pub returns-in-Ok-b : goal.returns-in-Ok-b
unfolding spec.earlier
returns-in-Ok-b c = sym (ap₂ (λ (x y : Result ⊤ Refusal). spec.earlier (said x) (said y)) c.in-Err.is c.in-Ok-b.is)

pub returns-then-comes_before : goal.returns-then-comes_before
unfolding spec.earlier
returns-then-comes_before c =
    sym
    (ap₂ (λ (x y : Result ⊤ Refusal). spec.earlier (said x) (said y)) c.in-Err.is c.in-Err-b.is
    ∙ ap (λ (t : Bool). cond t (refusal_of c.in-Err.x) (refusal_of c.in-Err-b.y)) (sym c.comes_before.ensures ∙ c.if-comes_before.true))

pub returns-else-comes_before : goal.returns-else-comes_before
unfolding spec.earlier
returns-else-comes_before c =
    sym
    (ap₂ (λ (x y : Result ⊤ Refusal). spec.earlier (said x) (said y)) c.in-Err.is c.in-Err-b.is
    ∙ ap (λ (t : Bool). cond t (refusal_of c.in-Err.x) (refusal_of c.in-Err-b.y)) (sym c.comes_before.ensures ∙ c.if-comes_before.false))
