-- `blake2b::absorb_key` meets its contract, by whether there is a key. Assumes nothing.
use Rattle.blake2b.proofs.Keys.{no_key, some_key}
use native.Mathlib.Omega.{arith}
use Rattle.blake2b.proofs.absorb_key.Goals as goal

pub returns-then-key-eq0 : goal.returns-then-key-eq0
returns-then-key-eq0 c = let a = c.args in no_key a.h.now a.key.now c.if-key-eq0.true

pub returns : goal.returns
returns c =
    let a = c.args in
    some_key a.h.now a.key.now _ (omega (arith, c.if-key-eq0.false)) c.compress_key.ensures
