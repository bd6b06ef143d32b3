-- `copy_release::release` meets its contract. Assumes nothing.
use Rattle.lookup.specs.Meaning.{placed_of}
use Rattle.copy_checks.specs.Copy.{Copy, copy_of}
use Rattle.copy_release.proofs.Calls.{release_fits, release_post}
use Rattle.copy_release.proofs.release.Goals as goal

pub release_placed-requires : goal.release_placed-requires
release_placed-requires c =
    let given : Copy = copy_of c.args.tree.now c.args.bitfield.now c.args.content.now c.args.n c.args.size in
    release_fits given c.args.chunk.0 (placed_of c.held_place-placed.result) c.held_place-placed.ensures

pub returns : goal.returns
returns c =
    let given : Copy = copy_of c.args.tree.now c.args.bitfield.now c.args.content.now c.args.n c.args.size in
    release_post given c.args.chunk.0 _ _ _ (placed_of c.held_place-placed.result) c.held_place-placed.ensures
    c.release_placed.ensures
