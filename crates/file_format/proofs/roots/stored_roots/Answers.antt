-- `file_format::roots::stored_roots` meets its contract: what stands at the roots. Assumes nothing.
use Rattle.file_format.proofs.ByValue.{roots_in}
use Rattle.tree_index.specs.Numbers.{numbers}
use Rattle.file_format.proofs.roots.stored_roots.Goals as goal

pub sizes_at-sizes-requires : goal.sizes_at-sizes-requires
sizes_at-sizes-requires c =
    roots_in c.args.tree.now (numbers c.root_indexes-indexes.result) c.args.n c.root_count-count.result c.root_count-count.ensures
    c.root_indexes-indexes.ensures c.requires
