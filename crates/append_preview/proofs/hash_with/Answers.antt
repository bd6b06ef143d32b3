-- `append_preview::hash_with` meets its contract. Assumes nothing.
use mathlib.Core.Path.{ap, ◌∙◌}
use Rattle.tree_index.specs.Numbers.{numbers}
use Rattle.blake2b.specs.Hash.{node_hash}
use Rattle.writing.specs.Inner.{entry_of}
use Rattle.append_preview.proofs.NewRoot.{some_roots, message_with_lem}
use Rattle.append_preview.proofs.hash_with.Goals as goal

pub overflow_sub-kept : goal.overflow_sub-kept
overflow_sub-kept c = some_roots c.args.n c.root_count-count.result c.requires.0 c.root_count-count.ensures

pub returns : goal.returns
returns c =
    c.root_hash.ensures
    ∙ ap node_hash
    (message_with_lem c.args.tree.now c.args.n (entry_of c.args.top) c.requires.0 c.stored_root_hashes-hashes.result
    (numbers c.root_indexes-indexes.result) c.stored_roots-stored.result.sizes c.root_count-count.result c.stored_root_hashes-hashes.ensures
    c.root_indexes-indexes.ensures c.stored_roots-stored.ensures.sizes c.root_count-count.ensures)
