-- `copy_checks::lower_of` meets its contract: case by case. Assumes nothing.
use mathlib.Core.Path.{sym, ap, ap₂, ◌∙◌}
use mathlib.Core.Bool.{Bool, cond}
use borrow.Author.Tests.{lt-ltb, le-ltb}
use Rattle.byte_strings.specs.Lowest.{Lowest, first}
use Rattle.copy_checks.specs.Least.{lower_of}
use Rattle.copy_checks.proofs.Least.{lower_nowhere}
use Rattle.lookup.specs.Unknown.{first_entry}
use Rattle.copy_checks.proofs.lower_of.Goals as goal

pub returns-in-None : goal.returns-in-None
unfolding lower_of
returns-in-None c = sym (ap (λ (x : Lowest). lower_of x (first_entry c.args.b)) (ap first_entry c.in-None.is))

pub returns-in-None-b : goal.returns-in-None-b
returns-in-None-b c = sym (ap₂ lower_of (ap first_entry c.in-Some.is) (ap first_entry c.in-None-b.is) ∙ lower_nowhere _)

pub returns-then-i-j : goal.returns-then-i-j
unfolding lower_of
returns-then-i-j c =
    sym (ap₂ lower_of (ap first_entry c.in-Some.is) (ap first_entry c.in-Some-b.is)
    ∙ ap (λ (x : Bool). cond x (first c.in-Some.i.0) (first c.in-Some-b.j.0)) (lt-ltb c.in-Some.i.0 c.in-Some-b.j.0 c.if-i-j.true))

pub returns-else-i-j : goal.returns-else-i-j
unfolding lower_of
returns-else-i-j c =
    sym (ap₂ lower_of (ap first_entry c.in-Some.is) (ap first_entry c.in-Some-b.is)
    ∙ ap (λ (x : Bool). cond x (first c.in-Some.i.0) (first c.in-Some-b.j.0)) (le-ltb c.in-Some.i.0 c.in-Some-b.j.0 c.if-i-j.false))
