-- The proof of the cycle of calls {digits}. Assumes nothing.
use native.Mathlib.Omega.{arith}
use Rattle.record_fields.proofs.Found.{digits_end, digits_last, digits_none, digits_more}
use Rattle.record_fields.proofs.varints.+digits.Goals as goal

pub returns-then-d-at : goal.returns-then-d-at
returns-then-d-at t c = digits_end c.args.d.now c.args.k c.args.at c.if-d-at.true

-- the last byte
pub returns-then-low-lt128 : goal.returns-then-low-lt128
returns-then-low-lt128 t c =
    digits_last c.args.d.now c.args.k c.args.at c.from-low.result c.if-d-at.false c.from-low.ensures c.if-low-lt128.true

-- one more that nothing may follow
pub returns-then-k-eq0 : goal.returns-then-k-eq0
returns-then-k-eq0 t c =
    digits_none c.args.d.now c.args.k c.args.at c.from-low.result c.if-d-at.false c.from-low.ensures c.if-low-lt128.false c.if-k-eq0.true

-- one more and what follows it
pub returns : goal.returns
returns t c =
    digits_more c.args.d.now c.args.k c.args.at c.from-low.result c.digits.result c.joined.result c.if-d-at.false c.from-low.ensures
    c.if-low-lt128.false (omega (arith, c.from-low.ensures, (c.type_inv.d c.args.at).fits)) c.if-k-eq0.false c.digits.ensures c.joined.ensures
