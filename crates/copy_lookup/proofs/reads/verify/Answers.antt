-- `copy_lookup::reads::verify` meets its contract: the place, and then the hash of the bytes there. Assumes nothing.
use mathlib.Core.Path.{◌∙◌}
use Rattle.blake2b.specs.Hash.{node_hash}
use Rattle.lookup.specs.Meaning.{placed_of}
use Rattle.copy_checks.specs.Copy.{Copy, copy_of}
use Rattle.copy_lookup.proofs.Calls.{copy_placed_in, copy_verified}
use Rattle.copy_lookup.proofs.reads.verify.Goals as goal

pub verify_placed-requires : goal.verify_placed-requires
verify_placed-requires c =
    let given : Copy = copy_of c.args.tree.now c.args.bitfield.now c.args.content.now c.args.n c.args.size in
    copy_placed_in given c.args.chunk.0 (placed_of c.held_place-placed.result) c.held_place-placed.ensures

pub returns : goal.returns
returns c =
    let given : Copy = copy_of c.args.tree.now c.args.bitfield.now c.args.content.now c.args.n c.args.size in
    c.verify_placed.ensures
    ∙ copy_verified node_hash given c.args.chunk.0 (placed_of c.held_place-placed.result) c.held_place-placed.ensures
