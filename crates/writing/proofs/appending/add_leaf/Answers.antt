-- `writing::appending::add_leaf` meets its contract. Assumes nothing.
use Rattle.writing.specs.Inner.{entry_of}
use Rattle.writing.proofs.Stored.{hole_fits, leaf_put}
use Rattle.writing.proofs.appending.add_leaf.Goals as goal

pub write_filled-requires : goal.write_filled-requires
write_filled-requires c = hole_fits c.args.tree.now c.args.n c.requires.room _ c.args.leaf.size c.requires c.clear_hole.ensures

pub returns : goal.returns
returns c =
    leaf_put c.args.tree.now c.args.n c.requires.room _ _ (entry_of c.args.leaf) c.requires.few c.clear_hole.ensures
    c.write_filled.ensures
