-- `packet::path::root_place` meets its contract. Assumes nothing.
use mathlib.Core.Path.{sym, ap, ◌∙◌}
use native.Mathlib.Omega.{arith}
use Rattle.tree_index.specs.Tree.{filled, roots}
use Rattle.tree_index.proofs.Roots.{length_roots_le}
use Rattle.tree_index.proofs.Numbers.{root_lent, roots_lent}
use Rattle.packet.proofs.Above.{seeking_none, seeking_found, seeking_next, seeking_end, root_small}
use Rattle.packet.proofs.path.root_place.Goals as goal

pub slice_bounds-i-items-end : goal.slice_bounds-i-items-end
slice_bounds-i-items-end c = omega (arith, c.root_count-count.ensures, length_roots_le c.args.n c.requires)

pub loop-j-init : goal.loop-j-init
loop-j-init c = let a = c.args in seeking_none (roots a.n) a.chunk.0

pub ends_before-requires : goal.ends_before-requires
ends_before-requires c = root_small c.requires (root_lent _ _ c.root_count-count.ensures c.root_indexes-indexes.ensures c.loop-j-test.true)

pub returns-then-not-ends_before : goal.returns-then-not-ends_before
returns-then-not-ends_before c =
    let r = root_lent _ _ c.root_count-count.ensures c.root_indexes-indexes.ensures c.loop-j-test.true in
    seeking_found _ _ _ _ c.loop-j.invariant r.0 (ap (filled c.args.chunk.0) (sym r.1) ∙ sym c.ends_before.ensures ∙ c.if-not-ends_before.true)

pub loop-j-preserved : goal.loop-j-preserved
loop-j-preserved c =
    let r = root_lent _ _ c.root_count-count.ensures c.root_indexes-indexes.ensures c.loop-j-test.true in
    seeking_next _ _ _ _ c.loop-j.invariant r.0 (ap (filled c.args.chunk.0) (sym r.1) ∙ sym c.ends_before.ensures ∙ c.if-not-ends_before.false)

pub returns : goal.returns
returns c =
    c.root_count-count.ensures
    ∙ seeking_end _ _ _ _ c.loop-j.invariant (roots_lent _ _ c.root_count-count.ensures c.root_indexes-indexes.ensures c.loop-j-test.false)
