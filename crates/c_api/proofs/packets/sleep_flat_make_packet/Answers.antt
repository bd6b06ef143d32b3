-- `c_api::packets::sleep_flat_make_packet` meets its contract.
use Rattle.c_api.proofs.Laws.{makes}
use Rattle.c_api.proofs.packets.sleep_flat_make_packet.Goals as goal

pub returns : goal.returns
returns c =
    let told = c.give_length.ensures in
    makes _ _ _ _ _ _ _ _ c.make-made.ensures told.answers told.gives
