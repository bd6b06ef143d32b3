-- One field behind the other.
use native.Mathlib.Omega.{arith}
use Rattle.record_format.proofs.Writing.{number_next, three_put}
use Rattle.record_format.proofs.stats.put_three.Goals as goal

pub put_number-third-requires : goal.put_number-third-requires
put_number-third-requires c =
    let a = c.args in
    let one = number_next a.k _ a.out.now a.at _ _ (omega (arith, c.requires.0)) (omega (arith, c.requires.1)) c.put_number-second.ensures in
    (omega (arith, c.requires.0), omega (arith, c.requires.1, one.0, one.1))

pub put_number-requires : goal.put_number-requires
put_number-requires c =
    let a = c.args in
    let one = number_next a.k _ a.out.now a.at _ _ (omega (arith, c.requires.0)) (omega (arith, c.requires.1)) c.put_number-second.ensures in
    let two = number_next _ _ _ _ _ _ (omega (arith, c.requires.0)) (omega (arith, c.requires.1, one.0, one.1)) c.put_number-third.ensures in
    (omega (arith, c.requires.0), omega (arith, c.requires.1, one.0, one.1, two.0, two.1))

pub returns : goal.returns
returns c =
    let a = c.args in
    three_put a.k _ _ _ a.out.now a.at _ _ _ _ _ _ c.requires.0 c.requires.1 c.put_number-second.ensures c.put_number-third.ensures
    c.put_number.ensures
