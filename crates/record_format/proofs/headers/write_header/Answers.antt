-- Each way out by the tests that led there; the content goes behind the first bytes.
use Rattle.record_format.proofs.Whole.{header_15, header_14, header_done}
use Rattle.record_format.proofs.headers.write_header.Goals as goal

pub returns-then-content-ne32 : goal.returns-then-content-ne32
returns-then-content-ne32 c =
    let a = c.args in
    header_15 a.content.now a.out.now c.refusal.result c.if-content-ne32.true c.refusal.ensures

pub returns-then-out-lt46 : goal.returns-then-out-lt46
returns-then-out-lt46 c =
    let a = c.args in
    header_14 a.content.now a.out.now c.refusal-then-out-lt46.result c.if-content-ne32.false c.if-out-lt46.true c.refusal-then-out-lt46.ensures

pub returns : goal.returns
returns c =
    let a = c.args in
    header_done a.content.now a.out.now c.first_bytes-start.result _ _ c.if-content-ne32.false c.if-out-lt46.false c.first_bytes-start.ensures
    c.copy_to.ensures c.copy_to-2.ensures
