-- `copy_checks::judge_lent` meets its contract: each number is refused where those before it are passed. Assumes nothing.
use borrow.Author.Tests.{le-leb, lt-leb}
use mathlib.Core.Path.{refl, sym, ◌∙◌}
use Rattle.copy_checks.proofs.Steps.{answered, heads_room}
use Rattle.copy_checks.proofs.judge_lent.Goals as goal

pub returns-then-n-gt1048576 : goal.returns-then-n-gt1048576
returns-then-n-gt1048576 c = answered _ (lt-leb _ _ c.if-n-gt1048576.true) refl refl c.refuse.ensures

pub returns-then-not-long_right : goal.returns-then-not-long_right
returns-then-not-long_right c =
    answered _ (le-leb _ _ c.if-n-gt1048576.false)
    (sym c.long_right.ensures ∙ c.if-not-long_right.true) refl c.refuse-then-not-long_right.ensures

pub heads_right-requires : goal.heads_right-requires
heads_right-requires c = heads_room _ (sym c.long_right.ensures ∙ c.if-not-long_right.false)

pub returns-then-not-heads_right : goal.returns-then-not-heads_right
returns-then-not-heads_right c =
    answered _ (le-leb _ _ c.if-n-gt1048576.false)
    (sym c.long_right.ensures ∙ c.if-not-long_right.false) (sym c.heads_right.ensures ∙ c.if-not-heads_right.true) c.refuse-then-not-heads_right.ensures

pub returns : goal.returns
returns c =
    answered _ (le-leb _ _ c.if-n-gt1048576.false) (sym c.long_right.ensures ∙ c.if-not-long_right.false)
    (sym c.heads_right.ensures ∙ c.if-not-heads_right.false) refl
