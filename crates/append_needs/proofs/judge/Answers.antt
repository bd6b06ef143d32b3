-- Each number is refused where those before it are passed.
use borrow.Author.Rules.{rules}
use borrow.Author.Tests.{leb-true, le-leb, lt-leb}
use Prim.Native.Nat.{◌+◌}
use mathlib.Core.Path.{refl, sym, ◌∙◌}
use native.Mathlib.Omega.{arith}
use lib.ListN.{length}
use Rattle.file_format.specs.Sizes.{most_chunks}
use Rattle.append_needs.proofs.Answers.{by_tests}
use Rattle.append_needs.proofs.judge.Goals as goal

pub returns-then-end-gt1048576 : goal.returns-then-end-gt1048576
returns-then-end-gt1048576 c =
    let a = c.args in
    by_tests a.n a.size a.lengths.now
    (sym c.count_after-end.ensures ∙ lt-leb _ _ c.if-end-gt1048576.true) refl refl refl (search rules)

pub returns-then-count-gt256 : goal.returns-then-count-gt256
returns-then-count-gt256 c =
    let a = c.args in
    by_tests a.n a.size a.lengths.now (sym c.count_after-end.ensures ∙ le-leb _ _ (omega arith)) (lt-leb _ _ c.if-count-gt256.true) refl refl (search rules)

pub returns-then-not-all_short : goal.returns-then-not-all_short
returns-then-not-all_short c =
    let a = c.args in
    by_tests a.n a.size a.lengths.now (sym c.count_after-end.ensures ∙ le-leb _ _ c.if-end-gt1048576.false) (le-leb _ _ c.if-count-gt256.false)
    (sym c.all_short.ensures ∙ c.if-not-all_short.true) refl c.refuse-then-not-all_short.ensures

pub overflow_mul-n : goal.overflow_mul-n
overflow_mul-n c = omega (arith, leb-true (c.args.n + length c.args.lengths.now) most_chunks (sym c.count_after-end.ensures ∙ le-leb _ _ c.if-end-gt1048576.false))

pub returns-then-n-size : goal.returns-then-n-size
returns-then-n-size c =
    let a = c.args in
    by_tests a.n a.size a.lengths.now (sym c.count_after-end.ensures ∙ le-leb _ _ c.if-end-gt1048576.false) (le-leb _ _ c.if-count-gt256.false) (sym c.all_short.ensures ∙ c.if-not-all_short.false)
    (lt-leb _ _ c.if-n-size.true) c.refuse-then-n-size.ensures

pub returns : goal.returns
returns c =
    let a = c.args in
    by_tests a.n a.size a.lengths.now (sym c.count_after-end.ensures ∙ le-leb _ _ c.if-end-gt1048576.false)
    (le-leb _ _ c.if-count-gt256.false) (sym c.all_short.ensures ∙ c.if-not-all_short.false) (le-leb _ _ c.if-n-size.false) refl
