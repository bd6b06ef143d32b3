-- Each statement makes a row by one call.
use Rattle.blake2b_compression.proofs.Steps.{mixed}
use Rattle.blake2b_compression.proofs.mixing.mix.Goals as goal

pub returns : goal.returns
returns c =
    mixed _ _ _ _ _ _ c.wrapping_add3-a.ensures c.xor_rotate-d.ensures c.wrapping_add-c.ensures c.xor_rotate-b.ensures
    c.wrapping_add3-a-2.ensures c.xor_rotate-d-2.ensures c.wrapping_add-c-2.ensures c.xor_rotate-b-2.ensures
