-- Each way out by the tests that led there.
use Rattle.std.proofs.Common.{sym, arith}
use Rattle.coordinates.proofs.Calls.{verdict_7, verdict_14, verdict_done}
use Rattle.coordinates.proofs.judge.Goals as goal

pub returns-then-long-gt65536 : goal.returns-then-long-gt65536
returns-then-long-gt65536 c = cc (verdict_7 _ _ c.if-long-gt65536.true)

pub returns-then-room-long : goal.returns-then-room-long
returns-then-room-long c = cc (verdict_14 _ _ (omega arith) c.if-room-long.true)

pub returns : goal.returns
returns c = sym (verdict_done _ _ c.if-long-gt65536.false c.if-room-long.false)
