-- `copy_make::write_files` meets its contract. Assumes nothing.
use native.Mathlib.Omega.{arith}
use Rattle.copy_checks.specs.Copy.{Copy, copy_of}
use Rattle.copy_make.proofs.Calls.{tree_room, bits_room, all_written}
use Rattle.copy_make.proofs.write_files.Goals as goal

pub overflow_sub-used_tree : goal.overflow_sub-used_tree
overflow_sub-used_tree c =
    let given : Copy = copy_of c.args.tree.now c.args.bitfield.now c.args.content.now c.args.n c.args.size in
    omega (arith, (tree_room given c.used_tree.result c.requires c.used_tree.ensures).0)

pub write_blank-requires : goal.write_blank-requires
write_blank-requires c =
    let given : Copy = copy_of c.args.tree.now c.args.bitfield.now c.args.content.now c.args.n c.args.size in
    let r = tree_room given c.used_tree.result c.requires c.used_tree.ensures in omega (arith, r.0, r.1)

pub overflow_sub-used_bitfield : goal.overflow_sub-used_bitfield
overflow_sub-used_bitfield c =
    let given : Copy = copy_of c.args.tree.now c.args.bitfield.now c.args.content.now c.args.n c.args.size in
    omega (arith, (bits_room given c.used_bitfield.result c.requires c.used_bitfield.ensures).0)

pub write_blank-requires-2 : goal.write_blank-requires-2
write_blank-requires-2 c =
    let given : Copy = copy_of c.args.tree.now c.args.bitfield.now c.args.content.now c.args.n c.args.size in
    let r = bits_room given c.used_bitfield.result c.requires c.used_bitfield.ensures in omega (arith, r.0, r.1)

pub returns : goal.returns
returns c =
    let given : Copy = copy_of c.args.tree.now c.args.bitfield.now c.args.content.now c.args.n c.args.size in
    all_written given _ _ _ _ _ _ _ c.used_tree.ensures c.used_bitfield.ensures c.tree_header-first.ensures
    c.bitfield_header-second.ensures
    c.write_blank.ensures c.write_blank-2.ensures c.clear.ensures
