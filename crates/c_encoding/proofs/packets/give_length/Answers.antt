-- `c_encoding::packets::give_length` meets its contract, by the case of what was made.
use Rattle.c_encoding.proofs.Laws.{made_refused, made_length_lem}
use Rattle.c_encoding.proofs.packets.give_length.Goals as goal

pub returns-in-Err : goal.returns-in-Err
returns-in-Err c =
    let both = made_refused _ c.in-Err.refusal _ _ c.in-Err.is c.refused.ensures in
    record { answers = both.0; gives = both.1 }

pub returns-in-Ok : goal.returns-in-Ok
returns-in-Ok c =
    let both = made_length_lem _ c.in-Ok.bytes _ _ c.in-Ok.is c.encode.ensures in
    record { answers = both.0; gives = both.1 }
