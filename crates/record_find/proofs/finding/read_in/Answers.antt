-- The place, and then the hash of the bytes there.
use mathlib.Core.Path.{sym, ap, ◌∙◌, subst}
use Rattle.blake2b.specs.Hash.{node_hash}
use Rattle.lookup.specs.Read.{hash_judged}
use Rattle.lookup.specs.Meaning.{PlacedIn}
use Rattle.record_find.proofs.finding.read_in.Goals as goal

pub verify_placed-requires : goal.verify_placed-requires
verify_placed-requires c =
    let a = c.args in
    subst (PlacedIn a.tree.now a.content.now a.chunk.0) (sym c.held_place_behind-placed.ensures) (c.requires.placed a.chunk.0)

pub returns : goal.returns
returns c =
    let a = c.args in
    c.verify_placed.ensures ∙ ap (hash_judged node_hash a.tree.now a.content.now a.chunk.0) c.held_place_behind-placed.ensures
