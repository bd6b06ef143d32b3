-- `append_preview::new_root` meets its contract. Assumes nothing.
use Rattle.writing.specs.Inner.{entry_of}
use Rattle.append_preview.proofs.NewRoot.{room_before, root_after}
use Rattle.append_preview.proofs.new_root.Goals as goal

pub hash_with-requires : goal.hash_with-requires
hash_with-requires c = (c.requires.few, room_before c.args.tree.now c.args.n c.requires.room)

pub returns : goal.returns
returns c =
    root_after c.args.tree.now c.args.n c.args.chunk.now c.leaf_hash-hash.result c.hash_with.result (entry_of c.climbed-top.result) c.requires
    c.leaf_hash-hash.ensures c.climbed-top.ensures c.hash_with.ensures
