-- Each way out by what stands at the place.
use native.Mathlib.Omega.{arith}
use Rattle.record_fields.proofs.Found.{number_row_end, number_row_other, number_row_bad, number_row_over, number_row_given}
use Rattle.record_fields.proofs.rows.number_row.Goals as goal

pub returns-then-d-at : goal.returns-then-d-at
returns-then-d-at c =
    let a = c.args in
    number_row_end a.d.now a.at a.k a.most c.requires.1 (omega arith) c.if-d-at.true c.requires.0

pub returns-then-d-at-2 : goal.returns-then-d-at-2
returns-then-d-at-2 c =
    let a = c.args in
    number_row_other a.d.now a.at a.k a.most c.requires.1 (omega arith) c.if-d-at.false c.if-d-at-2.true

pub returns-then-most-x : goal.returns-then-most-x
returns-then-most-x c =
    let a = c.args in
    number_row_over a.d.now a.at a.k a.most c.requires.1 (omega arith) c.if-d-at.false c.if-d-at-2.false
    c.in_ok-x.x.value c.in_ok-x.x.next c.in_ok-x.ensures c.if-most-x.true

pub returns-in_err-x : goal.returns-in_err-x
returns-in_err-x c =
    let a = c.args in
    rw c.from_residual.ensures
    (number_row_bad a.d.now a.at a.k a.most c.requires.1 (omega arith) c.if-d-at.false c.if-d-at-2.false c.in_err-x.ensures)

pub returns : goal.returns
returns c =
    let a = c.args in
    number_row_given a.d.now a.at a.k a.most c.requires.1 (omega arith) c.if-d-at.false c.if-d-at-2.false
    c.in_ok-x.x.value c.in_ok-x.x.next c.in_ok-x.ensures c.if-most-x.false
