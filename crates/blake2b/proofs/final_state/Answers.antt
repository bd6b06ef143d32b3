-- `blake2b::final_state` meets its contract, by whether there is a key and a message.
-- Assumes nothing.
use mathlib.Core.List.{◌++◌}
use Prim.Native.Nat.{◌<◌}
use lib.ListN.{length, length-append}
use Rattle.blake2b.proofs.Keys.{key_alone, key_then_message}
use native.Mathlib.Omega.{arith}
use Rattle.blake2b.proofs.final_state.Goals as goal
use Rattle.blake2b.proofs.final_state.Goals.{then-key-gt0+else-prefix-body-eq0, else-key-gt0}

pub returns-then-prefix-body-eq0 : goal.returns-then-prefix-body-eq0
returns-then-prefix-body-eq0 c =
    let a = c.args in
    key_alone a.nn a.key.now (a.prefix.now ++ a.body.now) _ (omega (arith, c.if-key-gt0.true)) c.requires c.first_state.ensures _
    (omega (arith, length-append a.prefix.now a.body.now, c.if-prefix-body-eq0.true)) c.compress_key.ensures

pub returns : goal.returns
returns c =
    let a = c.args in
    let more : 0 < length a.key.now → 0 < length (a.prefix.now ++ a.body.now) =
    λ h.
    elim c.if-key-gt0.branch [
      | then-key-gt0+else-prefix-body-eq0 w ↦ omega (arith, length-append a.prefix.now a.body.now)
      | else-key-gt0 w ↦ omega arith
    ]
    in
    key_then_message a.nn a.key.now (a.prefix.now ++ a.body.now) _ _ _ _ c.requires more c.first_state.ensures
    c.absorb_key-front.ensures.0 c.absorb_key-front.ensures.1 c.absorb.ensures
