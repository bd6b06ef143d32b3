-- `copy_make::judge` meets its contract. Assumes nothing.
use borrow.Author.Tests.{le-leb, lt-leb}
use mathlib.Core.Bool.{true, false}
use mathlib.Core.Path.{refl, sym, ◌∙◌}
use Rattle.answer_types.specs.Verdict.{done}
use Rattle.answer_types.specs.Meaning.{said}
use Rattle.copy_checks.specs.Copy.{Copy, copy_of}
use Rattle.copy_make.proofs.Calls.{answered}
use Rattle.copy_make.proofs.judge.Goals as goal

pub returns-then-n-gt1048576 : goal.returns-then-n-gt1048576
returns-then-n-gt1048576 c =
    let given : Copy = copy_of c.args.tree.now c.args.bitfield.now c.args.content.now c.args.n c.args.size in
    answered given (said c.refuse.result) false _ (lt-leb _ _ c.if-n-gt1048576.true) refl c.refuse.ensures

pub returns-then-not-long_right : goal.returns-then-not-long_right
returns-then-not-long_right c =
    let given : Copy = copy_of c.args.tree.now c.args.bitfield.now c.args.content.now c.args.n c.args.size in
    answered given (said c.refuse-then-not-long_right.result) true false (le-leb _ _ c.if-n-gt1048576.false)
    (sym c.long_right.ensures ∙ c.if-not-long_right.true) c.refuse-then-not-long_right.ensures

pub returns : goal.returns
returns c =
    let given : Copy = copy_of c.args.tree.now c.args.bitfield.now c.args.content.now c.args.n c.args.size in
    answered given done true true (le-leb _ _ c.if-n-gt1048576.false) (sym c.long_right.ensures ∙ c.if-not-long_right.false) refl
