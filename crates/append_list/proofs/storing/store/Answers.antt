-- `append_list::storing::store` meets its contract. Assumes nothing.
use Rattle.append_list.proofs.Leaves.{store_leaves, store_post}
use Rattle.append_list.proofs.storing.store.Goals as goal

pub add_leaves-requires : goal.add_leaves-requires
add_leaves-requires c = store_leaves c.requires c.copy_to.ensures

pub returns : goal.returns
returns c = store_post c.requires c.copy_to.ensures c.add_leaves.ensures c.add_zeros.ensures c.add_bits.ensures c.stored_root_hash.ensures
