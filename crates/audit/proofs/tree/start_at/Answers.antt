use mathlib.Core.Path.{sym, subst}
use native.Mathlib.Omega.{arith}
use Rattle.tree_index.specs.Tree.{entries}
use Rattle.file_format.specs.Inner.{EntryIn}
use Rattle.audit.proofs.Entries.{entry_in_lem, adding_none, adding_next, adding_all, before_leaf}
use Rattle.audit.proofs.tree.start_at.Goals as goal

pub next_chunk-end-requires : goal.next_chunk-end-requires
next_chunk-end-requires c = (entry_in_lem c.requires.0 c.requires.1).small

pub loop-c-init : goal.loop-c-init
loop-c-init c = adding_none

pub leaf_index-leaf-requires : goal.leaf_index-leaf-requires
unfolding entries
leaf_index-leaf-requires c = omega (arith, c.next_chunk-end.ensures, c.loop-c-test.true, c.requires.1, c.requires.0.count)

pub stored_size-requires : goal.stored_size-requires
stored_size-requires c =
    subst (EntryIn c.args.tree.now) (sym c.leaf_index-leaf.ensures)
    (before_leaf c.args.i.0 c.loop-c.c c.requires.0 c.requires.1 (omega (arith, c.next_chunk-end.ensures, c.loop-c-test.true)))

pub loop-c-preserved : goal.loop-c-preserved
loop-c-preserved c = adding_next c.loop-c.invariant c.leaf_index-leaf.ensures c.stored_size.ensures c.add_capped-start.ensures

pub returns : goal.returns
returns c = adding_all c.loop-c.invariant _ (omega (arith, c.next_chunk-end.ensures, c.loop-c.auto.c-end)) (omega (arith, c.next_chunk-end.ensures, c.loop-c-test.false))
