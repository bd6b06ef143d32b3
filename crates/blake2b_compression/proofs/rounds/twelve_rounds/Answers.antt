-- The vector after each round is what the next one starts with.
use Rattle.blake2b_compression.proofs.Whole.{twelve}
use Rattle.blake2b_compression.proofs.rounds.twelve_rounds.Goals as goal

pub returns : goal.returns
returns c =
    twelve _ _ c.round_0-v.ensures c.round_1-v.ensures c.round_2-v.ensures c.round_3-v.ensures
    c.round_4-v.ensures c.round_5-v.ensures c.round_6-v.ensures c.round_7-v.ensures
    c.round_8-v.ensures c.round_9-v.ensures c.round_0-v-2.ensures c.round_1.ensures
