use Prim.Native.Nat.{ℕ}
use mathlib.Core.Path.{◌≡◌, subst}
use native.Mathlib.Omega.{arith}
use Rattle.record_node.proofs.Listed.{Grown, grown_none, grown_bad, grown_end, one_there, grown_ninth, grown_more}
use Rattle.record_node.proofs.writers.writers_row.Goals as goal

pub loop-count-init : goal.loop-count-init
loop-count-init c = grown_none c.nobody-list.ensures c.requires

pub returns-in_err-row : goal.returns-in_err-row
returns-in_err-row c = rw c.from_residual.ensures (grown_bad c.loop-count.invariant c.in_err-row.ensures)

pub returns-in-None : goal.returns-in-None
returns-in-None c = grown_end c.loop-count.invariant c.in_ok-row.row.next c.in-None.is c.in_ok-row.ensures

pub loop-count-preserved : goal.loop-count-preserved
loop-count-preserved c =
    grown_more c.loop-count.invariant (one_there c.args.d.now c.loop-count.next c.in_ok-row.row.next c.in-Some.is c.in_ok-row.ensures)
    (λ e. omega (arith, e, c.loop-count-test.true))

pub returns-in_err-ninth : goal.returns-in_err-ninth
returns-in_err-ninth c = rw c.from_residual-in_err-ninth.ensures (grown_bad c.loop-count.invariant c.in_err-ninth.ensures)

pub returns-in-None-value : goal.returns-in-None-value
returns-in-None-value c =
    let l = c.loop-count in
    let all : l.count ≡ 8 = omega (arith, l.auto.count-end, c.loop-count-test.false) in
    grown_end (subst (λ (n : ℕ). Grown c.args.d.now c.args.at l.list n l.next) all l.invariant) c.in_ok-ninth.ninth.next c.in-None-value.is c.in_ok-ninth.ensures

pub returns-in-Some-value : goal.returns-in-Some-value
returns-in-Some-value c =
    let l = c.loop-count in
    let all : l.count ≡ 8 = omega (arith, l.auto.count-end, c.loop-count-test.false) in
    grown_ninth l.invariant (one_there c.args.d.now l.next c.in_ok-ninth.ninth.next c.in-Some-value.is c.in_ok-ninth.ensures) all
