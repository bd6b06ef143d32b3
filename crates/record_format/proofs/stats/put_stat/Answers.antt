-- Three fields behind three others.
use native.Mathlib.Omega.{arith}
use Rattle.record_format.specs.Post.{stat_of}
use Rattle.record_format.proofs.Writing.{three_next, stat_put}
use Rattle.record_format.proofs.stats.put_stat.Goals as goal

pub put_three-seventh-requires : goal.put_three-seventh-requires
put_three-seventh-requires c =
    let one = three_next 1 _ c.args.out.now 0 _ _ (omega arith) (omega (arith, c.requires)) c.put_three-fourth.ensures in
    (omega arith, omega (arith, c.requires, one.0, one.1))

pub put_three-requires : goal.put_three-requires
put_three-requires c =
    let one = three_next 1 _ c.args.out.now 0 _ _ (omega arith) (omega (arith, c.requires)) c.put_three-fourth.ensures in
    let two = three_next 4 _ _ _ _ _ (omega arith) (omega (arith, c.requires, one.0, one.1)) c.put_three-seventh.ensures in
    (omega arith, omega (arith, c.requires, one.0, one.1, two.0, two.1))

pub returns : goal.returns
returns c =
    let a = c.args in
    stat_put (stat_of a.stat) a.out.now _ _ _ _ _ _ c.requires c.put_three-fourth.ensures c.put_three-seventh.ensures c.put_three.ensures
