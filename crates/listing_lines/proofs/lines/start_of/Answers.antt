use mathlib.Core.Path.{ap, ◌∙◌}
use Prim.Native.Nat.{◌+◌}
use native.Mathlib.Omega.{arith}
use Rattle.tree_index.proofs.Index.{index_leaf}
use Rattle.file_format.specs.Stored.{stored_start}
use Rattle.audit.proofs.Entries.{leaf_length}
use Rattle.listing_lines.proofs.Entries.{start_none, start_more, entry_in_lem}
use Rattle.listing_lines.proofs.lines.start_of.Goals as goal

pub loop-j-init : goal.loop-j-init
loop-j-init c = start_none c.args.tree.now

pub stored_size-requires : goal.stored_size-requires
stored_size-requires c =
    entry_in_lem c.args.tree.now c.leaf_index-leaf.result.0 (omega (arith, c.leaf_index-leaf.ensures ∙ index_leaf c.loop-j.j, c.requires.few, c.loop-j-test.true))
    c.requires.room

pub overflow_add-start : goal.overflow_add-start
overflow_add-start c =
    let size = leaf_length c.args.tree.now c.loop-j.j c.leaf_index-leaf.ensures c.stored_size.ensures in
    omega (
      arith,
      start_more c.args.tree.now c.loop-j.j c.loop-j.start.0 c.stored_size.result c.loop-j.invariant size,
      c.requires.small (c.loop-j.j + 1) (omega (arith, c.loop-j-test.true)),
    )

pub loop-j-preserved : goal.loop-j-preserved
loop-j-preserved c =
    start_more c.args.tree.now c.loop-j.j c.loop-j.start.0 c.stored_size.result c.loop-j.invariant
    (leaf_length c.args.tree.now c.loop-j.j c.leaf_index-leaf.ensures c.stored_size.ensures)

pub returns : goal.returns
returns c = c.loop-j.invariant ∙ ap (stored_start c.args.tree.now) (omega (arith, c.loop-j.auto.j-end, c.loop-j-test.false))
