-- `copy_checks::long_right` meets its contract: each file is the first that is too short, or none is. Assumes nothing.
use mathlib.Core.Path.{refl}
use Rattle.checks.proofs.Steps.{and_stop, and_pass, short_of, long_of_lem}
use Rattle.copy_checks.specs.Meaning.{long_right}
use Rattle.copy_checks.proofs.long_right.Goals as goal

pub returns-then-tree-used_tree : goal.returns-then-tree-used_tree
unfolding long_right
returns-then-tree-used_tree c = and_stop _ _ (short_of c.args.tree.now c.used_tree.ensures c.if-tree-used_tree.true)

pub returns-then-bitfield-used_bitfield : goal.returns-then-bitfield-used_bitfield
unfolding long_right
returns-then-bitfield-used_bitfield c =
    and_pass _ _ _ (long_of_lem c.args.tree.now c.used_tree.ensures c.if-tree-used_tree.false)
    (and_stop _ _ (short_of c.args.bitfield.now c.used_bitfield.ensures c.if-bitfield-used_bitfield.true))

pub returns : goal.returns
unfolding long_right
returns c =
    and_pass _ _ _ (long_of_lem c.args.tree.now c.used_tree.ensures c.if-tree-used_tree.false)
    (and_pass _ _ _ (long_of_lem c.args.bitfield.now c.used_bitfield.ensures c.if-bitfield-used_bitfield.false) refl)
