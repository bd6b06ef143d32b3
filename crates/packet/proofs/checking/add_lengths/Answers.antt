-- `packet::checking::add_lengths` meets its contract. Assumes nothing.
use Rattle.packet.proofs.Sums.{adding_none, adding_next, adding_over, adding_all}
use Rattle.packet.proofs.checking.add_lengths.Goals as goal

pub loop-j-init : goal.loop-j-init
loop-j-init c = let a = c.args in adding_none a.packet.now a.at a.count a.from c.requires.1

pub returns-then-sum-here : goal.returns-then-sum-here
returns-then-sum-here c =
    let a = c.args in
    adding_over a.packet.now a.at a.count a.from c.loop-j.j c.loop-j.sum c.entry_size-here.result c.loop-j.invariant c.loop-j-test.true c.entry_size-here.ensures
    c.if-sum-here.true

pub loop-j-preserved : goal.loop-j-preserved
loop-j-preserved c =
    let a = c.args in
    adding_next a.packet.now a.at a.count a.from c.loop-j.j c.loop-j.sum c.entry_size-here.result c.loop-j.invariant c.loop-j-test.true c.entry_size-here.ensures
    c.if-sum-here.false

pub returns : goal.returns
returns c =
    let a = c.args in
    adding_all a.packet.now a.at a.count a.from c.loop-j.j c.loop-j.sum c.loop-j.invariant c.loop-j-test.false
