-- `stored_leaf::judge_leaf` meets its contract. Assumes nothing.
use Prim.Native.Nat.{ℕ, ◌+◌, ◌/◌, ◌≤◌}
use mathlib.Core.Path.{◌≡◌, refl, sym, ap, ◌∙◌, subst}
use mathlib.Core.Bool.{Bool, true, false}
use lib.ListN.{length}
use Rattle.answer_types.specs.Verdict.{tree, refused}
use Rattle.tree_index.specs.Tree.{index}
use Rattle.bitfield.specs.Append.{bits_place}
use Rattle.bitfield.specs.Known.{stored_known}
use Rattle.lookup.specs.Inner.{known_if}
use Rattle.stored_leaf.proofs.Calls.{leaf_above, leaf_known, leaf_unknown, leaf_bit}
use Rattle.stored_leaf.proofs.judge_leaf.Goals as goal

pub returns-then-n-chunk : goal.returns-then-n-chunk
returns-then-n-chunk c =
    let known : ℕ → Bool = known_if c.args.partly c.args.bitfield.now in
    c.refuse.ensures ∙ sym (leaf_above known c.args.n c.args.chunk.0 c.if-n-chunk.true)

pub returns-then-not-partly : goal.returns-then-not-partly
returns-then-not-partly c =
    let known : ℕ → Bool = known_if c.args.partly c.args.bitfield.now in
    -- what the test for its files says of the leaf
    let known_by : (p b : Bool) → c.args.partly ≡ p → known_if p c.args.bitfield.now (index 0 c.args.chunk.0) ≡ b → known (index 0 c.args.chunk.0) ≡ b =
    λ p b e f. ap (λ (q : Bool). known_if q c.args.bitfield.now (index 0 c.args.chunk.0)) e ∙ f in
    sym (leaf_known known c.args.n c.args.chunk.0 c.if-n-chunk.false (known_by false true (c.if-not-partly.true) refl))

pub is_known-requires : goal.is_known-requires
is_known-requires c =
    subst (λ (i : ℕ). bits_place (i / 16384 + 1) ≤ length c.args.bitfield.now) (sym c.leaf_index-leaf.ensures)
    (leaf_bit c.args.bitfield.now c.args.n c.args.chunk.0 (c.requires.bitfield (c.if-not-partly.false)) c.if-n-chunk.false)

pub returns-then-is_known : goal.returns-then-is_known
returns-then-is_known c =
    let known : ℕ → Bool = known_if c.args.partly c.args.bitfield.now in
    let known_by : (p b : Bool) → c.args.partly ≡ p → known_if p c.args.bitfield.now (index 0 c.args.chunk.0) ≡ b → known (index 0 c.args.chunk.0) ≡ b =
    λ p b e f. ap (λ (q : Bool). known_if q c.args.bitfield.now (index 0 c.args.chunk.0)) e ∙ f in
    let bit = sym (ap (stored_known c.args.bitfield.now) c.leaf_index-leaf.ensures) ∙ sym c.is_known.ensures ∙ c.if-is_known.true in
    sym (leaf_known known c.args.n c.args.chunk.0 c.if-n-chunk.false (known_by true true (c.if-not-partly.false) bit))

pub returns : goal.returns
returns c =
    let known : ℕ → Bool = known_if c.args.partly c.args.bitfield.now in
    let known_by : (p b : Bool) → c.args.partly ≡ p → known_if p c.args.bitfield.now (index 0 c.args.chunk.0) ≡ b → known (index 0 c.args.chunk.0) ≡ b =
    λ p b e f. ap (λ (q : Bool). known_if q c.args.bitfield.now (index 0 c.args.chunk.0)) e ∙ f in
    let at = c.leaf_index-leaf.ensures in
    let bit = sym (ap (stored_known c.args.bitfield.now) at) ∙ sym c.is_known.ensures ∙ c.if-is_known.false in
    c.refuse_entry.ensures ∙ ap (λ (i : ℕ). refused 20 (tree i)) at
    ∙ sym
    (leaf_unknown known c.args.n c.args.chunk.0 c.if-n-chunk.false
    (known_by true false (c.if-not-partly.false) bit))
