-- `copy_take_in::contradiction_of` meets its contract. Assumes nothing.
use mathlib.Core.Path.{refl}
use native.Mathlib.Omega.{arith}
use Rattle.copy_take_in.proofs.Places.{front, places_fit, chunk_in, chunk_part}
use Rattle.copy_take_in.proofs.Start.{held_in_lem}
use Rattle.copy_take_in.proofs.BroughtRows.{leaf_row, path_row_lem, beside_row, roots_row}
use Rattle.copy_take_in.proofs.LowestFound.{lowest_found}
use Rattle.copy_take_in.proofs.contradiction_of.Goals as goal

pub siblings_place-first-requires : goal.siblings_place-first-requires
siblings_place-first-requires c = front c.requires.room.packet.shaped

pub bytes_contradiction-bytes-requires : goal.bytes_contradiction-bytes-requires
bytes_contradiction-bytes-requires c =
    let ready = c.requires in
    held_in_lem ready.room ready.begins (chunk_part ready.room.packet.shaped c.siblings_place-first.ensures)

pub contradiction_at-own-requires : goal.contradiction_at-own-requires
contradiction_at-own-requires c = leaf_row c.requires c.leaf_index-leaf.ensures

pub lowest_in_row-upward-requires : goal.lowest_in_row-upward-requires
lowest_in_row-upward-requires c = path_row_lem c.requires _ _ refl refl

pub lowest_in_row-sideways-requires : goal.lowest_in_row-sideways-requires
lowest_in_row-sideways-requires c = beside_row c.requires _ _ refl refl c.siblings_place-first.ensures

pub lowest_in_row-requires : goal.lowest_in_row-requires
lowest_in_row-requires c = roots_row c.requires _ _ refl refl c.siblings_place-first.ensures

pub returns : goal.returns
returns c =
    let ready = c.requires in
    lowest_found ready c.siblings_place-first.ensures c.leaf_index-leaf.ensures
    (chunk_part ready.room.packet.shaped c.siblings_place-first.ensures) c.bytes_contradiction-bytes.ensures
    c.contradiction_at-own.ensures c.lower_of-low.ensures c.lowest_in_row-upward.ensures c.lowest_in_row-sideways.ensures
    c.lowest_in_row.ensures

pub overflow_mul-second : goal.overflow_mul-second
overflow_mul-second c = omega (arith, places_fit c.requires.room.packet.shaped c.siblings_place-first.ensures c.requires.way.up)

pub overflow_add-second : goal.overflow_add-second
overflow_add-second c = omega (arith, places_fit c.requires.room.packet.shaped c.siblings_place-first.ensures c.requires.way.up)

pub overflow_add-second-2 : goal.overflow_add-second-2
overflow_add-second-2 c = omega (arith, places_fit c.requires.room.packet.shaped c.siblings_place-first.ensures c.requires.way.up)

pub overflow_sub-end : goal.overflow_sub-end
overflow_sub-end c = (chunk_in c.requires.room.packet.shaped c.siblings_place-first.ensures).2

pub slice_bounds-bytes_contradiction-count : goal.slice_bounds-bytes_contradiction-count
slice_bounds-bytes_contradiction-count c = (chunk_in c.requires.room.packet.shaped c.siblings_place-first.ensures).0

pub slice_bounds-bytes_contradiction-start : goal.slice_bounds-bytes_contradiction-start
slice_bounds-bytes_contradiction-start c = (chunk_in c.requires.room.packet.shaped c.siblings_place-first.ensures).0

pub slice_bounds-bytes_contradiction-end : goal.slice_bounds-bytes_contradiction-end
slice_bounds-bytes_contradiction-end c = (chunk_in c.requires.room.packet.shaped c.siblings_place-first.ensures).1
