-- `lookup::places::place_in` meets its contract. Assumes nothing.
use mathlib.Core.Path.{sym, ap, ◌∙◌, subst}
use Rattle.file_format.specs.Stored.{stored_size}
use Rattle.file_format.specs.Inner.{EntryIn}
use Rattle.lookup.specs.Lookup.{found}
use Rattle.lookup.specs.Inner.{known_if}
use Rattle.lookup.proofs.Lookups.{place_above_lem}
use Rattle.lookup.proofs.Calls.{leaf_in_lem, place_told}
use Rattle.lookup.proofs.places.place_in.Goals as goal

pub returns-then-n-chunk : goal.returns-then-n-chunk
returns-then-n-chunk c =
    let a = c.args in
    sym (place_above_lem (known_if a.partly a.bitfield.now) a.tree.now a.n a.chunk.0 c.if-n-chunk.true)

pub stored_size-requires : goal.stored_size-requires
stored_size-requires c =
    let a = c.args in
    subst (EntryIn a.tree.now) (sym c.leaf_index.ensures) (leaf_in_lem a.chunk.0 c.requires.files.roots c.if-n-chunk.false).1

pub returns-in-Stopped : goal.returns-in-Stopped
returns-in-Stopped c = let a = c.args in place_told (known_if a.partly a.bitfield.now) a.tree.now a.n a.chunk.0 c.requires c.if-n-chunk.false c.in-Stopped.ensures

pub returns-in-Unknown : goal.returns-in-Unknown
returns-in-Unknown c = let a = c.args in place_told (known_if a.partly a.bitfield.now) a.tree.now a.n a.chunk.0 c.requires c.if-n-chunk.false c.in-Unknown.ensures

pub returns-in-Reached : goal.returns-in-Reached
returns-in-Reached c =
    let a = c.args in
    ap (found c.in-Reached.start.0) (c.stored_size.ensures ∙ ap (stored_size a.tree.now) c.leaf_index.ensures)
    ∙ place_told (known_if a.partly a.bitfield.now) a.tree.now a.n a.chunk.0 c.requires c.if-n-chunk.false c.in-Reached.ensures
