-- `copy_take_in::start_of` meets its contract. Assumes nothing.
use native.Mathlib.Omega.{arith}
use Rattle.copy_take_in.proofs.Places.{front, places_fit}
use Rattle.copy_take_in.proofs.Start.{beside_adds, roots_add, start_is}
use Rattle.copy_take_in.proofs.start_of.Goals as goal

pub siblings_place-first-requires : goal.siblings_place-first-requires
siblings_place-first-requires c = front c.requires.0.shaped

pub left_in_row-sum-requires : goal.left_in_row-sum-requires
left_in_row-sum-requires c = beside_adds c.requires.0 c.requires.1 c.siblings_place-first.ensures

pub left_in_row-requires : goal.left_in_row-requires
left_in_row-requires c =
    let given = c.requires in
    roots_add given.0 given.1 c.siblings_place-first.ensures c.leaf_index-leaf.result.0 c.left_in_row-sum.ensures

pub returns : goal.returns
returns c =
    let given = c.requires in
    start_is given.0.shaped given.1 c.siblings_place-first.ensures c.leaf_index-leaf.ensures c.left_in_row-sum.ensures
    c.left_in_row.ensures

pub overflow_mul-second : goal.overflow_mul-second
overflow_mul-second c = omega (arith, places_fit c.requires.0.shaped c.siblings_place-first.ensures c.requires.1.up)

pub overflow_add-second : goal.overflow_add-second
overflow_add-second c = omega (arith, places_fit c.requires.0.shaped c.siblings_place-first.ensures c.requires.1.up)

pub overflow_add-second-2 : goal.overflow_add-second-2
overflow_add-second-2 c = omega (arith, places_fit c.requires.0.shaped c.siblings_place-first.ensures c.requires.1.up)
