-- It follows from what the two calls ensure, and the first half is taken.
use mathlib.Core.List.{◌++◌}
use Rattle.blake2b.proofs.Output.{half_from}
use Rattle.blake2b.proofs.hash_parts.Goals as goal

pub returns : goal.returns
returns c =
    let a = c.args in
    let first = rw c.unwrap.ensures at c.first_chunk.ensures.cases in
    half_from a.key.now (a.prefix.now ++ a.body.now) _ _ _ c.final_state.ensures c.state_bytes-d.ensures first.same
