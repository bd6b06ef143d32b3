use Prim.Native.Nat.{◌^◌, ◌<◌}
use mathlib.Core.Path.{sym, ap, ◌∙◌}
use native.Mathlib.Omega.{arith}
use Rattle.tree_index.proofs.Roots.{length_roots_le}
use Rattle.lookup.specs.Descent.{Ending}
use Rattle.lookup.specs.Capped.{capped_ending, moved_by}
use Rattle.tree_index.proofs.Numbers.{root_lent, roots_lent}
use Rattle.lookup.proofs.Capped.{whole, none_left, root_entry, root_bit, root_stands, root_unknown, found_here, not_here, passed}
use Rattle.lookup.proofs.descent.from_roots.Goals as goal

pub slice_bounds-i-items-end : goal.slice_bounds-i-items-end
slice_bounds-i-items-end c = omega (arith, c.root_count-count.ensures, length_roots_le c.args.n c.requires.roots.count)

pub loop-i-init : goal.loop-i-init
loop-i-init c = whole c.requires

pub is_known-requires : goal.is_known-requires
is_known-requires c = root_bit c.requires c.loop-i.invariant (root_lent _ _ c.root_count-count.ensures c.root_indexes-roots.ensures c.loop-i-test.true)

pub returns-then-not-is_known : goal.returns-then-not-is_known
returns-then-not-is_known c =
    root_unknown c.requires c.loop-i.invariant (root_lent _ _ c.root_count-count.ensures c.root_indexes-roots.ensures c.loop-i-test.true)
    (sym c.is_known.ensures ∙ c.if-not-is_known.true)

pub stored_size-size-requires : goal.stored_size-size-requires
stored_size-size-requires c = root_entry c.requires c.loop-i.invariant (root_lent _ _ c.root_count-count.ensures c.root_indexes-roots.ensures c.loop-i-test.true)

pub is_within-requires : goal.is_within-requires
is_within-requires c = (
  (root_entry c.requires c.loop-i.invariant (root_lent _ _ c.root_count-count.ensures c.root_indexes-roots.ensures c.loop-i-test.true)).small,
  omega arith,
)

pub descend-ending-requires : goal.descend-ending-requires
descend-ending-requires c =
    let z : c.stored_size-size.result < 2 ^ 64 = omega arith in
    root_stands c.requires c.loop-i.invariant (root_lent _ _ c.root_count-count.ensures c.root_indexes-roots.ensures c.loop-i-test.true) c.stored_size-size.ensures z

pub returns-then-is_within : goal.returns-then-is_within
returns-then-is_within c =
    c.moved.ensures
    ∙ ap (λ (e : Ending). capped_ending (moved_by c.loop-i.start.0 e)) c.descend-ending.ensures
    ∙ found_here c.requires c.loop-i.invariant (root_lent _ _ c.root_count-count.ensures c.root_indexes-roots.ensures c.loop-i-test.true)
    (sym c.is_known.ensures ∙ c.if-not-is_known.false)
    c.stored_size-size.ensures (sym c.is_within.ensures ∙ c.if-is_within.true)

pub behind-left-requires : goal.behind-left-requires
behind-left-requires c = passed c.loop-i.left c.stored_size-size.result _ _ (sym c.is_within.ensures ∙ c.if-is_within.false)

pub loop-i-preserved : goal.loop-i-preserved
loop-i-preserved c =
    not_here c.requires c.loop-i.invariant (root_lent _ _ c.root_count-count.ensures c.root_indexes-roots.ensures c.loop-i-test.true)
    (sym c.is_known.ensures ∙ c.if-not-is_known.false)
    c.stored_size-size.ensures (sym c.is_within.ensures ∙ c.if-is_within.false)
    c.add_capped-start.ensures c.behind-left.ensures

pub returns : goal.returns
returns c = none_left c.requires c.loop-i.invariant (roots_lent _ _ c.root_count-count.ensures c.root_indexes-roots.ensures c.loop-i-test.false)
