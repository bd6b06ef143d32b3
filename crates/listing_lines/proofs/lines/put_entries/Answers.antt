use native.Mathlib.Omega.{arith}
use Prim.Native.Nat.{◌<◌}
use mathlib.Core.Path.{◌≡◌}
use Rattle.tree_index.specs.Tree.{entries}
use Rattle.listing_lines.specs.Inner.{stored_line}
use Rattle.listing_lines.proofs.Entries.{entry_small, entries_none, entries_more, entries_all}
use Rattle.listing_lines.proofs.lines.put_entries.Goals as goal

pub loop-i-init : goal.loop-i-init
loop-i-init c = entries_none (stored_line c.args.tree.now c.args.n) c.args.out.now c.args.at

pub put_entry-next-requires : goal.put_entry-next-requires
put_entry-next-requires c =
    let here : c.loop-i.i < entries c.args.n = omega (arith, c.loop-i-test.true, c.entry_count-i-end.ensures) in
    let small = entry_small c.args.n c.loop-i.i c.requires.1.few here in
    let w = c.loop-i.invariant in
    (omega (arith, w.few, w.next, w.same, c.requires.0, small), c.requires.1, here)

pub loop-i-preserved : goal.loop-i-preserved
loop-i-preserved c = entries_more (stored_line c.args.tree.now c.args.n) c.loop-i.i c.loop-i.invariant c.put_entry-next.ensures

pub returns : goal.returns
returns c =
    let all : c.loop-i.i ≡ entries c.args.n = omega (arith, c.loop-i.auto.i-end, c.loop-i-test.false, c.entry_count-i-end.ensures) in
    entries_all c.args.tree.now c.args.n c.loop-i.i c.requires.1.few all c.loop-i.invariant
