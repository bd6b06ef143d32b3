-- `release::release` meets its contract. Assumes nothing.
use Rattle.file_format.specs.Belongs.{Register}
use Rattle.checks.specs.Lent.{register_of}
use Rattle.lookup.specs.Meaning.{placed_of}
use Rattle.release.proofs.Calls.{release_fits, release_post}
use Rattle.release.proofs.release.Goals as goal

pub release_placed-requires : goal.release_placed-requires
release_placed-requires c =
    let given : Register = register_of c.args.tree.now c.args.signatures.now c.args.bitfield.now c.args.content.now c.args.n c.args.s
    c.args.size in
    release_fits given c.args.chunk.0 (placed_of c.held_place-placed.result) c.held_place-placed.ensures

pub returns : goal.returns
returns c =
    let given : Register = register_of c.args.tree.now c.args.signatures.now c.args.bitfield.now c.args.content.now c.args.n c.args.s
    c.args.size in
    release_post given c.args.chunk.0 _ _ _ (placed_of c.held_place-placed.result) c.held_place-placed.ensures
    c.release_placed.ensures
