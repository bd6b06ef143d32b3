-- `station_queue::words::enter` meets its contract: each way out by the tests that led there. Assumes nothing.
use native.Mathlib.Omega.{arith}
use Rattle.station_queue.proofs.Calls.{entered_21, entered_22, entered_done}
use Rattle.station_queue.proofs.words.enter.Goals as goal

pub returns-then-station-gt15 : goal.returns-then-station-gt15
returns-then-station-gt15 c =
    let a = c.args in
    entered_21 a.table.now a.station (record { register = a.register; chunk = a.chunk }) c.refuse.result c.refuse.ensures (omega (arith, c.if-station-gt15.true))

pub returns-then-waiting-ge4 : goal.returns-then-waiting-ge4
returns-then-waiting-ge4 c =
    let a = c.args in
    entered_22 a.table.now a.station c.count-waiting.result (record { register = a.register; chunk = a.chunk }) c.refuse-then-waiting-ge4.result c.refuse-then-waiting-ge4.ensures
    (omega (arith, c.if-station-gt15.false)) c.count-waiting.ensures.0 (omega (arith, c.if-waiting-ge4.true))

pub returns : goal.returns
returns c =
    let a = c.args in
    entered_done a.table.now a.station c.first.result c.count-waiting.result a.register a.chunk c.requires
    (omega (arith, c.if-station-gt15.false)) c.first.ensures.0 c.count-waiting.ensures.0 (omega (arith, c.if-waiting-ge4.false))
