use Prim.Native.Nat.{◌+◌}
use borrow.Author.Rules.{rules}
use Rattle.append_list.proofs.Once.{once_first, once_next, once_all, bit_room}
use Rattle.append_list.proofs.storing.add_bits.Goals as goal

pub loop-i-init : goal.loop-i-init
loop-i-init c = let a = c.args in once_first a.bitfield.now a.n a.k

pub add_bit-requires : goal.add_bit-requires
add_bit-requires c =
    bit_room c.args.bitfield.now c.args.n c.args.k c.loop-i.bitfield c.loop-i.i c.requires c.loop-i-test.true
    (search rules)

pub loop-i-preserved : goal.loop-i-preserved
loop-i-preserved c =
    let a = c.args in
    let l = c.loop-i in
    once_next a.bitfield.now a.n a.k l.bitfield _ l.i (a.n + a.k) c.loop-i-test.true c.add_bit.ensures l.invariant

pub returns : goal.returns
returns c =
    let l = c.loop-i in
    once_all c.args.bitfield.now c.args.n c.args.k l.bitfield l.i (c.args.n + c.args.k) c.requires c.loop-i-test.false l.invariant
