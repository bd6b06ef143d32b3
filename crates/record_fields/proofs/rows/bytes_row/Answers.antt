-- Each way out by what stands at the place.
use native.Mathlib.Omega.{arith}
use Rattle.record_fields.proofs.Found.{bytes_row_end, bytes_row_other, bytes_row_bad, bytes_row_over, bytes_row_short, bytes_row_given}
use Rattle.record_fields.proofs.rows.bytes_row.Goals as goal

pub returns-then-d-at : goal.returns-then-d-at
returns-then-d-at c =
    let a = c.args in
    bytes_row_end a.d.now a.at a.k a.longest c.requires.1 (omega arith) c.if-d-at.true c.requires.0

pub returns-then-d-at-2 : goal.returns-then-d-at-2
returns-then-d-at-2 c =
    let a = c.args in
    bytes_row_other a.d.now a.at a.k a.longest c.requires.1 (omega arith) c.if-d-at.false c.if-d-at-2.true

pub returns-then-longest-len : goal.returns-then-longest-len
returns-then-longest-len c =
    let a = c.args in
    bytes_row_over a.d.now a.at a.k a.longest c.requires.1 (omega arith) c.if-d-at.false c.if-d-at-2.false
    c.in_ok-x.x.value c.in_ok-x.x.next c.in_ok-x.ensures c.if-longest-len.true

pub returns-then-d-x : goal.returns-then-d-x
returns-then-d-x c =
    let a = c.args in
    bytes_row_short a.d.now a.at a.k a.longest c.requires.1 (omega arith) c.if-d-at.false c.if-d-at-2.false
    c.in_ok-x.x.value c.in_ok-x.x.next c.in_ok-x.ensures c.if-d-x.true

pub returns-in_err-x : goal.returns-in_err-x
returns-in_err-x c =
    let a = c.args in
    rw c.from_residual.ensures
    (bytes_row_bad a.d.now a.at a.k a.longest c.requires.1 (omega arith) c.if-d-at.false c.if-d-at-2.false c.in_err-x.ensures)

pub returns : goal.returns
returns c =
    let a = c.args in
    bytes_row_given a.d.now a.at a.k a.longest c.requires.1 (omega arith) c.if-d-at.false c.if-d-at-2.false
    c.in_ok-x.x.value c.in_ok-x.x.next c.in_ok-x.ensures c.if-longest-len.false c.if-d-x.false
