-- The proof of the cycle of calls {put_digits}. Assumes nothing.
use Rattle.listing_lines.proofs.Put.{none_digits, one_digit, more_digits}
use Rattle.listing_lines.proofs.text.+put_digits.Goals as goal

pub returns-then-k-eq0 : goal.returns-then-k-eq0
returns-then-k-eq0 t c = none_digits c.args.out.now c.args.at c.args.k c.args.x c.if-k-eq0.true

pub returns-then-x-lt10 : goal.returns-then-x-lt10
returns-then-x-lt10 t c = one_digit c.args.k c.args.x c.if-k-eq0.false c.if-x-lt10.true c.put_digit.ensures

pub returns : goal.returns
returns t c =
    more_digits c.args.k c.args.x c.if-k-eq0.false c.if-x-lt10.false c.put_digits-next.ensures c.put_digit-2.ensures
