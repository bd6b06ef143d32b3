use mathlib.Core.Path.{sym, ap, ◌∙◌}
use native.Mathlib.Omega.{arith}
use Rattle.byte_strings.specs.Lowest.{first}
use Rattle.tree_index.specs.Tree.{roots}
use Rattle.tree_index.proofs.Roots.{length_roots_le}
use Rattle.bitfield.specs.Known.{stored_known}
use Rattle.copy_checks.proofs.Least.{unknown_on, unknown_off, unknown_end}
use Rattle.tree_index.proofs.Numbers.{root_lent, roots_lent}
use Rattle.copy_checks.proofs.Roots.{root_bit}
use Rattle.copy_checks.proofs.unknown_root.Goals as goal

pub slice_bounds-i-items-end : goal.slice_bounds-i-items-end
slice_bounds-i-items-end c = omega (arith, c.root_count-count.ensures, length_roots_le c.args.n c.requires.count)

pub is_known-requires : goal.is_known-requires
is_known-requires c =
    root_bit c.args.bitfield.now c.args.n c.loop-i.i-index c.requires
    (root_lent c.root_indexes-indexes.result c.args.n c.root_count-count.ensures c.root_indexes-indexes.ensures c.loop-i-test.true)

pub returns-then-not-is_known : goal.returns-then-not-is_known
returns-then-not-is_known c =
    let here = root_lent c.root_indexes-indexes.result c.args.n c.root_count-count.ensures c.root_indexes-indexes.ensures c.loop-i-test.true in
    let k = stored_known c.args.bitfield.now in
    ap first here.1
    ∙ sym (unknown_off k (roots c.args.n) c.loop-i.i-index here.0 (ap k (sym here.1) ∙ sym c.is_known.ensures ∙ c.if-not-is_known.true))
    ∙ c.loop-i.invariant

pub loop-i-preserved : goal.loop-i-preserved
loop-i-preserved c =
    let here = root_lent c.root_indexes-indexes.result c.args.n c.root_count-count.ensures c.root_indexes-indexes.ensures c.loop-i-test.true in
    let k = stored_known c.args.bitfield.now in
    sym (unknown_on k (roots c.args.n) c.loop-i.i-index here.0 (ap k (sym here.1) ∙ sym c.is_known.ensures ∙ c.if-not-is_known.false))
    ∙ c.loop-i.invariant

pub returns : goal.returns
returns c =
    sym (unknown_end (stored_known c.args.bitfield.now) (roots c.args.n) c.loop-i.i-index
    (roots_lent c.root_indexes-indexes.result c.args.n c.root_count-count.ensures c.root_indexes-indexes.ensures c.loop-i-test.false))
    ∙ c.loop-i.invariant
