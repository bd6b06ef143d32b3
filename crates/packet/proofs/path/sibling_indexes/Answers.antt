use mathlib.Core.Path.{ap, ◌∙◌}
use native.Mathlib.Omega.{arith}
use lib.Pow.{shr_le}
use Rattle.tree_index.specs.Tree.{index}
use Rattle.tree_index.specs.Numbers.{numbers}
use Rattle.tree_index.proofs.Numbers.{numbers_set}
use Rattle.file_format.proofs.ByValue.{filling_none, filling_next, filling_all}
use Rattle.packet.specs.Packet.{beside}
use Rattle.packet.specs.Inner.{sibling_row}
use Rattle.packet.proofs.Rows.{beside_end}
use Rattle.packet.proofs.path.sibling_indexes.Goals as goal

pub loop-h-init : goal.loop-h-init
unfolding numbers
loop-h-init c = filling_none _ _ _ c.requires.1

pub beside-k-requires : goal.beside-k-requires
beside-k-requires c = omega (arith, c.block_over.ensures, shr_le c.args.chunk.0 c.loop-h.h)

pub node_index-requires : goal.node_index-requires
node_index-requires c = omega (arith, c.beside-k.ensures, beside_end c.block_over.result, c.block_over.ensures, shr_le c.args.chunk.0 c.loop-h.h)

pub loop-h-preserved : goal.loop-h-preserved
loop-h-preserved c =
    let l = c.loop-h in
    let i = c.node_index in
    filling_next _ _ _ l.h (numbers l.found) l.invariant _ i.result.0 c.loop-h-test.true
    (i.ensures ∙ ap (index l.h) (c.beside-k.ensures ∙ ap beside c.block_over.ensures)) (numbers_set l.found l.h i.result)

pub returns : goal.returns
unfolding sibling_row
returns c = filling_all _ _ _ _ _ c.loop-h.invariant c.loop-h-test.false
