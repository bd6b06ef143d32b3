-- `c_api::partial::sleep_flat_copy_make_packet` meets its contract.
use Rattle.c_api.proofs.Copied.{copy_makes}
use Rattle.c_api.proofs.partial.sleep_flat_copy_make_packet.Goals as goal

pub returns : goal.returns
returns c =
    let told = c.give_length.ensures in
    copy_makes _ _ _ _ _ _ _ _ c.make-made.ensures told.answers told.gives
