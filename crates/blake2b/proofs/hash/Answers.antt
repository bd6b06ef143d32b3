-- `blake2b::hash` meets its contract. Each way out goes by the tests on the lengths that led there.
-- Assumes nothing.
use lib.ListN.{length}
use Rattle.blake2b.proofs.Calls.{too_short, too_long, key_too_long, all_right, as_refused, as_done}
use native.Mathlib.Omega.{arith}
use Rattle.blake2b.proofs.hash.Goals as goal

pub returns-then-nn-lt1 : goal.returns-then-nn-lt1
returns-then-nn-lt1 c =
    let a = c.args in
    as_refused a.nn a.key.now a.message.now 1 c.refused.result (too_short a.nn (length a.key.now) (omega arith)) c.refused.ensures

pub returns-then-nn-gt64 : goal.returns-then-nn-gt64
returns-then-nn-gt64 c =
    let a = c.args in
    as_refused a.nn a.key.now a.message.now 1 c.refused-then-nn-gt64.result (too_long a.nn (length a.key.now) (omega arith)) c.refused-then-nn-gt64.ensures

pub returns-then-key-gt64 : goal.returns-then-key-gt64
returns-then-key-gt64 c =
    let a = c.args in
    as_refused a.nn a.key.now a.message.now 17 c.refused-then-key-gt64.result
    (key_too_long a.nn (length a.key.now) (omega arith) (omega arith) (omega arith)) c.refused-then-key-gt64.ensures

pub returns : goal.returns
returns c =
    let a = c.args in
    as_done a.nn a.key.now a.message.now _ _ _ (all_right a.nn (length a.key.now) (omega arith) (omega arith) (omega arith))
    c.final_state.ensures c.state_bytes-d.ensures c.cut.ensures
