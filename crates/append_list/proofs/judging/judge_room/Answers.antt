-- `append_list::judging::judge_room` meets its contract: each number is refused where those before it are passed. Assumes nothing.
use Prim.Native.Nat.{◌+◌}
use mathlib.Core.Path.{refl}
use native.Mathlib.Omega.{arith}
use borrow.Author.Tests.{le-leb, lt-leb, eq-eqb, ne_eqb}
use lib.ListN.{length}
use Rattle.checks.proofs.Steps.{short_of, long_of_lem}
use Rattle.append_list.proofs.Orders.{room_answered}
use Rattle.append_list.proofs.judging.judge_room.Goals as goal

pub returns-then-s-n : goal.returns-then-s-n
returns-then-s-n c = room_answered _ c.args.k c.args.whole (ne_eqb _ _ c.if-s-n.true) refl refl refl refl c.refuse.ensures

pub returns-then-tree-used_tree : goal.returns-then-tree-used_tree
returns-then-tree-used_tree c =
    room_answered _ c.args.k c.args.whole (eq-eqb _ _ c.if-s-n.false)
    (short_of c.args.tree.now c.used_tree.ensures c.if-tree-used_tree.true) refl refl refl c.refuse-then-tree-used_tree.ensures

pub returns-then-signatures-used_signatures : goal.returns-then-signatures-used_signatures
returns-then-signatures-used_signatures c =
    room_answered _ c.args.k c.args.whole (eq-eqb _ _ c.if-s-n.false)
    (long_of_lem c.args.tree.now c.used_tree.ensures c.if-tree-used_tree.false)
    (short_of c.args.signatures.now c.used_signatures.ensures c.if-signatures-used_signatures.true) refl refl c.refuse-then-signatures-used_signatures.ensures

pub returns-then-bitfield-used_bitfield : goal.returns-then-bitfield-used_bitfield
returns-then-bitfield-used_bitfield c =
    room_answered _ c.args.k c.args.whole (eq-eqb _ _ c.if-s-n.false)
    (long_of_lem c.args.tree.now c.used_tree.ensures c.if-tree-used_tree.false)
    (long_of_lem c.args.signatures.now c.used_signatures.ensures c.if-signatures-used_signatures.false)
    (short_of c.args.bitfield.now c.used_bitfield.ensures c.if-bitfield-used_bitfield.true) refl c.refuse-then-bitfield-used_bitfield.ensures

pub returns-then-content-size : goal.returns-then-content-size
returns-then-content-size c =
    room_answered _ c.args.k c.args.whole (eq-eqb _ _ c.if-s-n.false)
    (long_of_lem c.args.tree.now c.used_tree.ensures c.if-tree-used_tree.false)
    (long_of_lem c.args.signatures.now c.used_signatures.ensures c.if-signatures-used_signatures.false)
    (long_of_lem c.args.bitfield.now c.used_bitfield.ensures c.if-bitfield-used_bitfield.false)
    (lt-leb (c.args.size + c.args.whole) (length c.args.content.now) (omega (arith, c.requires.2, c.if-content-size.true))) c.refuse-then-content-size.ensures

pub returns : goal.returns
returns c =
    room_answered _ c.args.k c.args.whole (eq-eqb _ _ c.if-s-n.false)
    (long_of_lem c.args.tree.now c.used_tree.ensures c.if-tree-used_tree.false)
    (long_of_lem c.args.signatures.now c.used_signatures.ensures c.if-signatures-used_signatures.false)
    (long_of_lem c.args.bitfield.now c.used_bitfield.ensures c.if-bitfield-used_bitfield.false)
    (le-leb (c.args.size + c.args.whole) (length c.args.content.now) (omega (arith, c.requires.2, c.if-content-size.false))) refl
