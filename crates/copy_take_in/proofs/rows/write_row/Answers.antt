use mathlib.Core.Path.{sym, subst}
use native.Mathlib.Omega.{arith}
use Rattle.tree_index.specs.Numbers.{numbers}
use Rattle.file_format.proofs.ByValue.{number_at}
use Rattle.copy_take_in.specs.Inner.{KnowableIn}
use Rattle.copy_take_in.proofs.Entries.{still, written_none, written_next, written_all}
use Rattle.copy_take_in.proofs.rows.write_row.Goals as goal

pub loop-j-init : goal.loop-j-init
loop-j-init c = written_none c.args.tree.now c.args.bitfield.now c.args.row.now c.args.at (numbers c.args.indexes) c.args.count

pub write_one-requires : goal.write_one-requires
write_one-requires c = (
  still c.args.tree.now c.args.bitfield.now _ _ _ c.loop-j.invariant.tree_long_lem c.loop-j.invariant.bits_long_lem
      (subst (KnowableIn c.args.tree.now c.args.bitfield.now) (number_at c.args.indexes c.loop-j.j) (c.requires.each c.loop-j.j c.loop-j-test.true)),
  omega (arith, c.requires.inside.inside, c.loop-j-test.true),
)

pub loop-j-preserved : goal.loop-j-preserved
loop-j-preserved c =
    written_next c.args.tree.now c.args.bitfield.now c.args.row.now c.args.at (numbers c.args.indexes) c.args.count c.loop-j.j
    _ _ _ _ _ c.loop-j.invariant
    c.loop-j-test.true (sym (number_at c.args.indexes c.loop-j.j)) c.write_one.ensures c.write_one.auto.tree c.write_one.auto.bitfield

pub returns : goal.returns
returns c =
    written_all c.args.tree.now c.args.bitfield.now c.args.row.now c.args.at (numbers c.args.indexes) c.args.count
    c.loop-j.j _ _ c.loop-j.invariant c.loop-j-test.false
