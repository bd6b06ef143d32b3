-- `packet::checking::root_hash_with` meets its contract. Assumes nothing.
use mathlib.Core.Path.{ap, ◌∙◌}
use native.Mathlib.Omega.{arith}
use Rattle.tree_index.specs.Numbers.{numbers}
use Rattle.tree_index.proofs.Roots.{length_roots_le}
use Rattle.blake2b.specs.Hash.{node_hash}
use Rattle.packet.specs.Inner.{entry_of}
use Rattle.packet.proofs.InTurn.{gathered_message, turns_in}
use Rattle.packet.proofs.checking.root_hash_with.Goals as goal

pub roots_in_turn-requires : goal.roots_in_turn-requires
roots_in_turn-requires c =
    let a = c.args in
    turns_in a.packet.now a.at a.n a.chunk.0 c.root_count-count.result c.root_place-place.result c.requires
    c.root_count-count.ensures c.root_place-place.ensures

pub root_hash-requires : goal.root_hash-requires
root_hash-requires c = omega (arith, c.root_count-count.ensures, length_roots_le c.args.n c.requires.chunk.count)

pub returns : goal.returns
returns c =
    let a = c.args in
    let r = c.roots_in_turn in
    c.root_hash.ensures
    ∙ ap node_hash
    (gathered_message a.packet.now a.at a.n a.chunk.0 (entry_of a.node) c.requires.chunk r.result.0
    (numbers c.root_indexes-indexes.result) r.result.1 c.root_count-count.result c.root_place-place.result
    c.root_count-count.ensures c.root_place-place.ensures r.ensures.hashes c.root_indexes-indexes.ensures r.ensures.sizes)
