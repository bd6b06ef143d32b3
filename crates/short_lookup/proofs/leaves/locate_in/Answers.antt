use mathlib.Core.Path.{sym, ap, ◌∙◌, subst}
use native.Mathlib.Omega.{arith}
use Rattle.file_format.specs.Inner.{EntryIn}
use Rattle.lookup.specs.Lookup.{found}
use Rattle.lookup.specs.Inner.{known_if, BitIn}
use Rattle.short_lookup.proofs.Walks.{leaf_in_lem, leaf_bit, leaf_read, passed_none, byte_nine, byte_end, byte_none_lem, byte_unknown_lem, byte_long_lem, byte_here, byte_on}
use Rattle.short_lookup.proofs.leaves.locate_in.Goals as goal

pub leaf_index-leaf-requires : goal.leaf_index-leaf-requires
leaf_index-leaf-requires c = omega (arith, c.loop-k-test.true, c.requires.roots.count)

pub is_known-requires : goal.is_known-requires
is_known-requires c = subst (BitIn c.args.partly c.args.bitfield.now) (sym c.leaf_index-leaf.ensures) (leaf_bit c.requires c.loop-k.k c.loop-k-test.true)

pub returns-then-not-is_known : goal.returns-then-not-is_known
returns-then-not-is_known c =
    byte_unknown_lem _ c.if-size-offset.false c.if-offset-size.false c.loop-k.invariant c.loop-k-test.true c.leaf_index-leaf.ensures
    (sym c.is_known.ensures ∙ c.if-not-is_known.true)

pub stored_size-length-requires : goal.stored_size-length-requires
stored_size-length-requires c = subst (EntryIn c.args.tree.now) (sym c.leaf_index-leaf.ensures) (leaf_in_lem c.requires c.loop-k.k c.loop-k-test.true)

pub returns-then-length-gt65536 : goal.returns-then-length-gt65536
returns-then-length-gt65536 c =
    byte_long_lem _ c.if-size-offset.false c.if-offset-size.false c.loop-k.invariant c.loop-k-test.true
    (leaf_read (known_if c.args.partly c.args.bitfield.now) c.args.tree.now c.leaf_index-leaf.ensures c.is_known.ensures c.if-not-is_known.false c.stored_size-length.ensures) c.if-length-gt65536.true

pub overflow_add-start : goal.overflow_add-start
overflow_add-start c = omega (arith, c.loop-k.invariant.walked.small, c.loop-k-test.true, c.if-length-gt65536.false, c.requires.roots.count)

pub overflow_sub-result : goal.overflow_sub-result
overflow_sub-result c = c.loop-k.invariant.from

pub returns-then-offset-start : goal.returns-then-offset-start
returns-then-offset-start c =
    byte_here _ c.if-size-offset.false c.if-offset-size.false c.loop-k.invariant c.loop-k-test.true
    (leaf_read (known_if c.args.partly c.args.bitfield.now) c.args.tree.now c.leaf_index-leaf.ensures c.is_known.ensures c.if-not-is_known.false c.stored_size-length.ensures) c.if-length-gt65536.false
    c.if-offset-start.true

pub overflow_add-start-in-loop-k : goal.overflow_add-start-in-loop-k
overflow_add-start-in-loop-k c = omega (arith, c.loop-k.invariant.walked.small, c.loop-k-test.true, c.if-length-gt65536.false, c.requires.roots.count)

pub loop-k-preserved : goal.loop-k-preserved
loop-k-preserved c =
    byte_on _ c.if-size-offset.false c.if-offset-size.false c.loop-k.invariant c.loop-k-test.true
    (leaf_read (known_if c.args.partly c.args.bitfield.now) c.args.tree.now c.leaf_index-leaf.ensures c.is_known.ensures c.if-not-is_known.false c.stored_size-length.ensures) c.if-length-gt65536.false
    c.if-offset-start.false

pub returns : goal.returns
returns c = byte_none_lem _ c.if-size-offset.false c.if-offset-size.false c.loop-k.invariant c.loop-k-test.false (omega (arith, c.loop-k.auto.k-end))

pub returns-then-size-offset : goal.returns-then-size-offset
returns-then-size-offset c = byte_nine _ _ _ _ _ c.if-size-offset.true

pub returns-then-offset-size : goal.returns-then-offset-size
returns-then-offset-size c = ap (λ k. found k 0) c.chunk_behind.ensures ∙ byte_end _ _ _ _ _ c.if-offset-size.true

pub loop-k-init : goal.loop-k-init
loop-k-init c = passed_none _ _ _ _
