use Prim.Native.Nat.{◌+◌}
use mathlib.Core.Path.{ap, ◌∙◌}
use native.Mathlib.Omega.{arith}
use lib.Pow.{shr_le}
use Rattle.tree_index.specs.Tree.{index}
use Rattle.tree_index.specs.Numbers.{numbers}
use Rattle.tree_index.proofs.Numbers.{numbers_set}
use Rattle.file_format.proofs.ByValue.{filling_none, filling_next, filling_all}
use Rattle.copy_take_in.specs.Inner.{above_row}
use Rattle.copy_take_in.proofs.way.above_indexes.Goals as goal

pub loop-h-init : goal.loop-h-init
unfolding numbers
loop-h-init c = filling_none _ _ _ c.requires.1

pub node_index-requires : goal.node_index-requires
node_index-requires c = omega (arith, c.requires.1, c.block_over-k.ensures, shr_le c.args.chunk.0 (c.loop-h.h + 1))

pub loop-h-preserved : goal.loop-h-preserved
loop-h-preserved c =
    let l = c.loop-h in
    let i = c.node_index in
    filling_next _ _ _ l.h (numbers l.found) l.invariant _ i.result.0 c.loop-h-test.true
    (i.ensures ∙ ap (index (l.h + 1)) c.block_over-k.ensures) (numbers_set l.found l.h i.result)

pub returns : goal.returns
unfolding above_row
returns c = filling_all _ _ _ _ _ c.loop-h.invariant c.loop-h-test.false
