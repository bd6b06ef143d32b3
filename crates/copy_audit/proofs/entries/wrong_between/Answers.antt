use native.Mathlib.Omega.{arith}
use Rattle.copy_audit.proofs.Judged.{seeking_none, seeking_next, seeking_all}
use Rattle.copy_audit.proofs.entries.wrong_between.Goals as goal

pub loop-i-init : goal.loop-i-init
loop-i-init c = seeking_none

pub wrong_by-here-requires : goal.wrong_by-here-requires
wrong_by-here-requires c = (c.requires.0, omega (arith, c.loop-i-test.true, c.requires.1))

pub loop-i-preserved : goal.loop-i-preserved
loop-i-preserved c = seeking_next c.loop-i.invariant c.loop-i-test.true c.wrong_by-here.ensures c.lower_of-found.ensures

pub returns : goal.returns
returns c = seeking_all c.loop-i.invariant c.loop-i-test.false
