-- `copy_take_in::write_all` meets its contract. Assumes nothing.
use mathlib.Core.Path.{refl}
use native.Mathlib.Omega.{arith}
use Rattle.blake2b.specs.Hash.{node_hash}
use Rattle.copy_take_in.proofs.Places.{front, chunk_in, chunk_part}
use Rattle.copy_take_in.proofs.Start.{held_in_lem}
use Rattle.copy_take_in.proofs.Written.{all_written}
use Rattle.copy_take_in.proofs.write_all.Goals as goal

pub siblings_place-end-requires : goal.siblings_place-end-requires
siblings_place-end-requires c = front c.requires.room.packet.shaped

pub hold_bits-requires : goal.hold_bits-requires
hold_bits-requires c = omega (arith, c.write_entries.auto.bitfield, (held_in_lem c.requires.room c.requires.begins refl).bit)

-- the chunk lies within the packet
pub slice_bounds-copy_to-start : goal.slice_bounds-copy_to-start
slice_bounds-copy_to-start c = (chunk_in c.requires.room.packet.shaped c.siblings_place-end.ensures).0

pub slice_bounds-copy_to-count : goal.slice_bounds-copy_to-count
slice_bounds-copy_to-count c = (chunk_in c.requires.room.packet.shaped c.siblings_place-end.ensures).0

pub slice_bounds-copy_to-end : goal.slice_bounds-copy_to-end
slice_bounds-copy_to-end c = (chunk_in c.requires.room.packet.shaped c.siblings_place-end.ensures).1

pub copy_to-requires : goal.copy_to-requires
copy_to-requires c =
    let ready = c.requires in
    (held_in_lem ready.room ready.begins (chunk_part ready.room.packet.shaped c.siblings_place-end.ensures)).inside

pub returns : goal.returns
returns c =
    let a = c.args in
    all_written node_hash a.content.now a.packet.now a.n a.chunk.0 c.write_entries.ensures c.hold_bits.ensures
    c.requires.begins (chunk_part c.requires.room.packet.shaped c.siblings_place-end.ensures) c.copy_to.ensures

pub overflow_sub-end : goal.overflow_sub-end
overflow_sub-end c = (chunk_in c.requires.room.packet.shaped c.siblings_place-end.ensures).2
