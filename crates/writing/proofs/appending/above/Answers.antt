-- `writing::appending::above` meets its contract. Assumes nothing.
use native.Mathlib.Omega.{arith}
use Rattle.tree_index.proofs.Roots.{completed_few, completed_block}
use Rattle.writing.proofs.Climbed.{block_two}
use Rattle.writing.proofs.Stored.{sibling_in, sum_fits, node_above}
use Rattle.writing.proofs.appending.above.Goals as goal

pub overflow_shr-n : goal.overflow_shr-n
overflow_shr-n c = omega (arith, completed_few c.args.n c.args.d c.requires.few (omega (arith, c.requires.depth)))

pub overflow_sub-n : goal.overflow_sub-n
overflow_sub-n c = block_two c.args.n c.args.d c.requires.few c.requires.depth

pub node_index-i-requires : goal.node_index-i-requires
node_index-i-requires c = (
  omega (arith, completed_few c.args.n c.args.d c.requires.few (omega (arith, c.requires.depth))),
  omega
      (arith, c.requires.few, (completed_block c.args.n c.args.d c.requires.few (omega (arith, c.requires.depth))).1),
)

pub stored_hash-left-requires : goal.stored_hash-left-requires
stored_hash-left-requires c = sibling_in c.args.tree.now c.args.n c.args.d _ c.requires.few c.requires.depth c.requires.room c.node_index-i.ensures

pub stored_size-requires : goal.stored_size-requires
stored_size-requires c = sibling_in c.args.tree.now c.args.n c.args.d _ c.requires.few c.requires.depth c.requires.room c.node_index-i.ensures

pub overflow_add-size : goal.overflow_add-size
overflow_add-size c =
    record {
      fits = sum_fits c.args.tree.now c.args.n c.args.d _ _ c.args.node.size c.node_index-i.ensures
          c.stored_size.ensures c.requires.sum;
    }

pub returns : goal.returns
returns c =
    let a = c.args in
    node_above a.tree.now _ a.node.hash _ a.n a.d _ _ a.node.size c.node_index-i.ensures
    c.stored_hash-left.ensures c.stored_size.ensures c.parent_hash-hash.ensures
