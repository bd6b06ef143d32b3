-- The proof of the cycle of calls {put_digits}. Assumes nothing.
use native.Mathlib.Omega.{arith}
use Rattle.record_fields.proofs.Put.{some_length, longer, put_last, put_room, put_more}
use Rattle.record_fields.proofs.varints.+put_digits.Goals as goal

pub bounds-out-at : goal.bounds-out-at
bounds-out-at t c = omega (arith, c.requires.room, some_length c.args.k c.args.x)

pub returns-then-x-lt128 : goal.returns-then-x-lt128
returns-then-x-lt128 t c = put_last c.args.k c.args.x c.args.out.now c.args.at c.if-x-lt128.true c.requires

pub bounds-out-at-2 : goal.bounds-out-at-2
bounds-out-at-2 t c = omega (arith, c.requires.room, some_length c.args.k c.args.x)

-- the call
pub put_digits-requires : goal.put_digits-requires
put_digits-requires t c =
    let a = c.args in (
      omega (arith, longer a.k a.x c.requires.fits c.if-x-lt128.false),
      put_room a.k a.x a.out.now a.at _ c.if-x-lt128.false c.requires,
    )

-- one byte and what follows it
pub returns : goal.returns
returns t c =
    let a = c.args in
    put_more a.k a.x a.out.now a.at _ _ c.if-x-lt128.false c.requires c.put_digits.ensures
