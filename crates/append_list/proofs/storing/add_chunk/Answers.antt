-- `append_list::storing::add_chunk` meets its contract. Assumes nothing.
use Rattle.append_list.proofs.Leaves.{chunk_added}
use Rattle.append_list.proofs.storing.add_chunk.Goals as goal

pub returns : goal.returns
returns c =
    chunk_added c.args.tree.now c.args.content.now _ _ c.args.n c.args.at c.args.end c.requires.order c.requires.content c.leaf_hash-hash.ensures
    c.add_leaf.ensures
