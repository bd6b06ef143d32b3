-- `lookup::reading::verify` meets its contract: the place, and then the hash of the bytes there. Assumes nothing.
use mathlib.Core.Path.{◌∙◌}
use Rattle.blake2b.specs.Hash.{node_hash}
use Rattle.lookup.specs.Meaning.{placed_of}
use Rattle.lookup.proofs.Calls.{placed_in, verified}
use Rattle.lookup.proofs.reading.verify.Goals as goal

pub verify_placed-requires : goal.verify_placed-requires
verify_placed-requires c =
    placed_in _ c.args.chunk.0 (placed_of c.held_place-placed.result) c.held_place-placed.ensures

pub returns : goal.returns
returns c =
    c.verify_placed.ensures ∙ verified node_hash _ c.args.chunk.0 (placed_of c.held_place-placed.result) c.held_place-placed.ensures
