use mathlib.Core.Path.{sym, ◌∙◌, subst}
use native.Mathlib.Omega.{arith}
use Rattle.file_format.specs.Inner.{EntryIn}
use Rattle.lookup.specs.Inner.{known_if, BitIn}
use Rattle.short_lookup.proofs.Walks.{leaf_in_lem, leaf_bit, leaf_read, come_none, place_nine, place_unknown_lem, place_long_lem, place_on, place_here}
use Rattle.short_lookup.proofs.leaves.place_in.Goals as goal

pub returns-then-n-chunk : goal.returns-then-n-chunk
returns-then-n-chunk c = place_nine _ _ _ _ c.if-n-chunk.true

pub loop-k-init : goal.loop-k-init
loop-k-init c = come_none _ _ _

pub overflow_add-start : goal.overflow_add-start
overflow_add-start c = omega (arith, c.loop-k.invariant.walked.small, c.loop-k-test.true, c.requires.roots.count)

pub leaf_index-leaf-requires : goal.leaf_index-leaf-requires
leaf_index-leaf-requires c = omega (arith, c.loop-k-test.true, c.requires.roots.count)

pub is_known-requires : goal.is_known-requires
is_known-requires c = subst (BitIn c.args.partly c.args.bitfield.now) (sym c.leaf_index-leaf.ensures) (leaf_bit c.requires c.loop-k.k (omega (arith, c.loop-k-test.true)))

pub returns-then-not-is_known : goal.returns-then-not-is_known
returns-then-not-is_known c =
    place_unknown_lem _ c.if-n-chunk.false c.loop-k.invariant (omega (arith, c.loop-k-test.true)) c.leaf_index-leaf.ensures
    (sym c.is_known.ensures ∙ c.if-not-is_known.true)

pub stored_size-length-requires : goal.stored_size-length-requires
stored_size-length-requires c = subst (EntryIn c.args.tree.now) (sym c.leaf_index-leaf.ensures) (leaf_in_lem c.requires c.loop-k.k (omega (arith, c.loop-k-test.true)))

pub returns-then-length-gt65536 : goal.returns-then-length-gt65536
returns-then-length-gt65536 c =
    place_long_lem _ c.if-n-chunk.false c.loop-k.invariant (omega (arith, c.loop-k-test.true))
    (leaf_read (known_if c.args.partly c.args.bitfield.now) c.args.tree.now c.leaf_index-leaf.ensures c.is_known.ensures c.if-not-is_known.false c.stored_size-length.ensures) c.if-length-gt65536.true

pub loop-k-preserved : goal.loop-k-preserved
loop-k-preserved c =
    place_on _ c.if-n-chunk.false c.loop-k.invariant (omega (arith, c.loop-k-test.true))
    (leaf_read (known_if c.args.partly c.args.bitfield.now) c.args.tree.now c.leaf_index-leaf.ensures c.is_known.ensures c.if-not-is_known.false c.stored_size-length.ensures) c.if-length-gt65536.false

pub returns : goal.returns
returns c = place_here _ c.if-n-chunk.false c.loop-k.invariant (omega (arith, c.loop-k-test.false)) (omega (arith, c.loop-k.auto.k-end))
