-- `writing::appending::judge_own` meets its contract: each number is refused where those before it are passed. Assumes nothing.
use mathlib.Core.Path.{refl}
use borrow.Author.Tests.{le-leb, lt-leb, eq-eqb, ne_eqb}
use Rattle.checks.proofs.Steps.{short_of, long_of_lem}
use Rattle.writing.proofs.Orders.{own_answered}
use Rattle.writing.proofs.appending.judge_own.Goals as goal

pub returns-then-chunk-gt65536 : goal.returns-then-chunk-gt65536
returns-then-chunk-gt65536 c = own_answered _ c.args.chunk.now (lt-leb _ _ c.if-chunk-gt65536.true) refl refl refl refl c.refuse.ensures

pub returns-then-s-n : goal.returns-then-s-n
returns-then-s-n c =
    own_answered _ c.args.chunk.now (le-leb _ _ c.if-chunk-gt65536.false)
    (ne_eqb _ _ c.if-s-n.true) refl refl refl c.refuse-then-s-n.ensures

pub returns-then-tree-used_tree : goal.returns-then-tree-used_tree
returns-then-tree-used_tree c =
    own_answered _ c.args.chunk.now (le-leb _ _ c.if-chunk-gt65536.false)
    (eq-eqb _ _ c.if-s-n.false) (short_of c.args.tree.now c.used_tree.ensures c.if-tree-used_tree.true) refl refl c.refuse-then-tree-used_tree.ensures

pub returns-then-bitfield-used_bitfield : goal.returns-then-bitfield-used_bitfield
returns-then-bitfield-used_bitfield c =
    let a = c.args in
    own_answered _ a.chunk.now (le-leb _ _ c.if-chunk-gt65536.false)
    (eq-eqb _ _ c.if-s-n.false) (long_of_lem a.tree.now c.used_tree.ensures c.if-tree-used_tree.false)
    (short_of a.bitfield.now c.used_bitfield.ensures c.if-bitfield-used_bitfield.true) refl c.refuse-then-bitfield-used_bitfield.ensures

pub returns-then-content-size : goal.returns-then-content-size
returns-then-content-size c =
    let a = c.args in
    own_answered _ a.chunk.now (le-leb _ _ c.if-chunk-gt65536.false)
    (eq-eqb _ _ c.if-s-n.false) (long_of_lem a.tree.now c.used_tree.ensures c.if-tree-used_tree.false)
    (long_of_lem a.bitfield.now c.used_bitfield.ensures c.if-bitfield-used_bitfield.false) (lt-leb _ _ c.if-content-size.true) c.refuse-then-content-size.ensures

pub returns : goal.returns
returns c =
    let a = c.args in
    own_answered _ a.chunk.now (le-leb _ _ c.if-chunk-gt65536.false) (eq-eqb _ _ c.if-s-n.false)
    (long_of_lem a.tree.now c.used_tree.ensures c.if-tree-used_tree.false)
    (long_of_lem a.bitfield.now c.used_bitfield.ensures c.if-bitfield-used_bitfield.false) (le-leb _ _ c.if-content-size.false) refl
