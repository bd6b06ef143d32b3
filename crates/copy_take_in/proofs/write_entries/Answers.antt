-- `copy_take_in::write_entries` meets its contract: one row after the other. Assumes nothing.
use mathlib.Core.Path.{◌∙◌}
use mathlib.Core.List.{[], ◌∷◌}
use native.Mathlib.Omega.{arith}
use Rattle.tree_index.specs.Tree.{index}
use Rattle.copy_take_in.specs.Inner.{lies, WithGiven}
use Rattle.copy_take_in.proofs.Entries.{with_more}
use Rattle.copy_take_in.proofs.Places.{front, places_fit}
use Rattle.copy_take_in.proofs.BroughtRows.{leaf_row, path_row_lem, beside_row, roots_row, all_rows}
use Rattle.copy_take_in.proofs.write_entries.Goals as goal

pub siblings_place-first-requires : goal.siblings_place-first-requires
siblings_place-first-requires c = front c.requires.room.packet.shaped

pub write_one-requires : goal.write_one-requires
write_one-requires c = leaf_row c.requires c.leaf_index-leaf.ensures

pub write_row-requires : goal.write_row-requires
write_row-requires c = path_row_lem c.requires _ _ c.write_one.auto.tree c.write_one.auto.bitfield

pub write_row-requires-2 : goal.write_row-requires-2
write_row-requires-2 c =
    beside_row c.requires _ _ (c.write_row.auto.tree ∙ c.write_one.auto.tree)
    (c.write_row.auto.bitfield ∙ c.write_one.auto.bitfield) c.siblings_place-first.ensures

pub write_row-requires-3 : goal.write_row-requires-3
write_row-requires-3 c =
    roots_row c.requires _ _
    (c.write_row-2.auto.tree ∙ c.write_row.auto.tree ∙ c.write_one.auto.tree)
    (c.write_row-2.auto.bitfield ∙ c.write_row.auto.bitfield ∙ c.write_one.auto.bitfield) c.siblings_place-first.ensures

pub returns : goal.returns
returns c =
    let own : WithGiven c.args.tree.now c.args.bitfield.now (lies c.args.row.now 0 (index 0 c.args.chunk.0) ∷ []) _ _ =
    rw c.leaf_index-leaf.ensures at c.write_one.ensures in
    rw (all_rows c.requires c.siblings_place-first.ensures)
    (with_more own (with_more c.write_row.ensures (with_more c.write_row-2.ensures c.write_row-3.ensures)))

pub overflow_mul-second : goal.overflow_mul-second
overflow_mul-second c = omega (arith, places_fit c.requires.room.packet.shaped c.siblings_place-first.ensures c.requires.way.up)

pub overflow_add-second : goal.overflow_add-second
overflow_add-second c = omega (arith, places_fit c.requires.room.packet.shaped c.siblings_place-first.ensures c.requires.way.up)

pub overflow_add-second-2 : goal.overflow_add-second-2
overflow_add-second-2 c = omega (arith, places_fit c.requires.room.packet.shaped c.siblings_place-first.ensures c.requires.way.up)
