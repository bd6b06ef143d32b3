-- `file_format::roots::stored_root_hashes` meets its contract: what stands at the roots. Assumes nothing.
use Rattle.file_format.proofs.ByValue.{roots_in}
use Rattle.tree_index.specs.Numbers.{numbers}
use Rattle.file_format.proofs.roots.stored_root_hashes.Goals as goal

pub hashes_at-requires : goal.hashes_at-requires
hashes_at-requires c =
    roots_in c.args.tree.now (numbers c.root_indexes-indexes.result) c.args.n c.root_count-count.result c.root_count-count.ensures
    c.root_indexes-indexes.ensures c.requires
