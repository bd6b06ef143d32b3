use native.Mathlib.Omega.{arith}
use Rattle.tree_index.proofs.Roots.{length_roots_le}
use Rattle.tree_index.proofs.Numbers.{root_lent, roots_ended}
use Rattle.listing_lines.proofs.Entries.{roots_none, roots_more, roots_all}
use Rattle.listing_lines.proofs.lines.put_roots.Goals as goal

pub loop-i-init : goal.loop-i-init
loop-i-init c = roots_none c.args.n c.args.out.now c.args.at

pub slice_bounds-i-items-end : goal.slice_bounds-i-items-end
slice_bounds-i-items-end c = omega (arith, c.root_count-count.ensures, length_roots_le c.args.n (omega (arith, c.requires.1)))

pub put_text-a-requires : goal.put_text-a-requires
put_text-a-requires c =
    let here = root_lent c.root_indexes-roots.result c.args.n c.root_count-count.ensures c.root_indexes-roots.ensures c.loop-i-test.true in
    let w = c.loop-i.invariant in
    omega (arith, here.0, length_roots_le c.args.n (omega (arith, c.requires.1)), w.few, w.next, w.same, c.requires.0)

pub put_digits-next-requires : goal.put_digits-next-requires
put_digits-next-requires c =
    let here = root_lent c.root_indexes-roots.result c.args.n c.root_count-count.ensures c.root_indexes-roots.ensures c.loop-i-test.true in
    let w = c.loop-i.invariant in
    let a = c.put_text-a.ensures in
    omega (arith, here.0, length_roots_le c.args.n (omega (arith, c.requires.1)), w.few, w.next, w.same, a.next, a.few, a.same, c.requires.0)

pub loop-i-preserved : goal.loop-i-preserved
loop-i-preserved c =
    roots_more c.args.n c.loop-i.i-index
    (root_lent c.root_indexes-roots.result c.args.n c.root_count-count.ensures c.root_indexes-roots.ensures c.loop-i-test.true) c.loop-i.invariant
    c.put_text-a.ensures c.put_digits-next.ensures

pub returns : goal.returns
returns c =
    roots_all c.args.n c.loop-i.i-index c.requires.1
    (roots_ended c.root_indexes-roots.result c.args.n c.root_count-count.ensures c.root_indexes-roots.ensures c.loop-i.auto.i-index-end c.loop-i-test.false) c.loop-i.invariant
