-- `lookup::places::held_place_in` meets its contract. Assumes nothing.
use Prim.Native.Nat.{ℕ}
use mathlib.Core.Path.{sym, ap, ◌∙◌}
use Rattle.answer_types.specs.Verdict.{tree}
use Rattle.lookup.specs.Lookup.{refusal}
use Rattle.lookup.specs.Inner.{known_if}
use Rattle.lookup.proofs.Lookups.{held_above, held_gone, held_here}
use Rattle.lookup.proofs.Calls.{bit_in}
use Rattle.lookup.proofs.places.held_place_in.Goals as goal

pub returns-then-n-chunk : goal.returns-then-n-chunk
returns-then-n-chunk c =
    let a = c.args in
    sym (held_above (known_if a.partly a.bitfield.now) a.tree.now a.n a.chunk.0 a.bitfield.now c.if-n-chunk.true)

pub is_held-requires : goal.is_held-requires
is_held-requires c =
    let a = c.args in
    bit_in a.n a.chunk.0 a.bitfield.now c.requires.held c.if-n-chunk.false

pub returns-then-not-is_held : goal.returns-then-not-is_held
returns-then-not-is_held c =
    let a = c.args in
    ap (λ (i : ℕ). refusal 18 (tree i)) c.leaf_index.ensures
    ∙ sym
    (held_gone (known_if a.partly a.bitfield.now) a.tree.now a.n a.chunk.0 a.bitfield.now c.if-n-chunk.false
    (sym c.is_held.ensures ∙ c.if-not-is_held.true))

pub returns : goal.returns
returns c =
    let a = c.args in
    c.place_in.ensures
    ∙ sym
    (held_here (known_if a.partly a.bitfield.now) a.tree.now a.n a.chunk.0 a.bitfield.now c.if-n-chunk.false
    (sym c.is_held.ensures ∙ c.if-not-is_held.false))
