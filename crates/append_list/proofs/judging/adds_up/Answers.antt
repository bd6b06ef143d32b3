use Prim.Native.Nat.{ℕ, ◌+◌}
use mathlib.Core.Path.{sym, ap, ◌∙◌}
use mathlib.Core.List.{List}
use native.Mathlib.Omega.{arith}
use lib.Dec.{eqb}
use lib.ListN.{length}
use lib.Seq.{take-length, take_all}
use Rattle.byte_strings.specs.Lists.{total}
use Rattle.file_format.proofs.ByValue.{total_next, none_left, too_much}
use Rattle.append_list.proofs.judging.adds_up.Goals as goal

pub loop-here-init : goal.loop-here-init
unfolding total
loop-here-init c = omega arith

pub returns-then-left-here : goal.returns-then-left-here
returns-then-left-here c =
    let a = c.args in
    let l = c.loop-here in
    too_much a.lengths.now l.here-index (length a.lengths.now) l.left a.whole c.loop-here-test.true c.loop-here-test.true l.invariant c.if-left-here.true
    ∙ ap (λ (xs : List ℕ). eqb (total xs) a.whole) (take-length a.lengths.now)

pub loop-here-preserved : goal.loop-here-preserved
loop-here-preserved c = omega (arith, total_next c.args.lengths.now c.loop-here.here-index c.loop-here-test.true, c.loop-here.invariant, c.if-left-here.false)

pub returns : goal.returns
returns c =
    let a = c.args in
    let l = c.loop-here in
    none_left (total a.lengths.now) l.left a.whole
    (ap (λ (xs : List ℕ). total xs + l.left) (sym (take_all l.here-index a.lengths.now c.loop-here-test.false)) ∙ l.invariant)
