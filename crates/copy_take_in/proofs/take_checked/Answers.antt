-- `copy_take_in::take_checked` meets its contract. Assumes nothing.
use Rattle.answer_types.specs.Meaning.{said}
use Rattle.blake2b.specs.Hash.{node_hash}
use Rattle.copy_take_in.proofs.BroughtRows.{led_rows}
use Rattle.copy_take_in.proofs.Written.{own_refused, own_done}
use Rattle.copy_take_in.proofs.take_checked.Goals as goal

pub contradiction_of-found-requires : goal.contradiction_of-found-requires
contradiction_of-found-requires c =
    record { room = c.requires.room; way = c.way_of-way.ensures; begins = c.start_of-start.ensures; led = led_rows _ _ _ c.requires.led c.entry_row-row.ensures }

pub write_all-requires : goal.write_all-requires
write_all-requires c =
    record { room = c.requires.room; way = c.way_of-way.ensures; begins = c.start_of-start.ensures; led = led_rows _ _ _ c.requires.led c.entry_row-row.ensures }

pub returns-in-Some : goal.returns-in-Some
returns-in-Some c = own_refused node_hash _ _ _ (said c.refuse_entry.result) c.in-Some.i.0 c.in-Some.ensures c.refuse_entry.ensures

pub returns-in-None : goal.returns-in-None
returns-in-None c = own_done node_hash _ _ _ _ c.in-None.ensures c.write_all.ensures
