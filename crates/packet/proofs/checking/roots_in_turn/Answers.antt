-- `packet::checking::roots_in_turn` meets its contract. Assumes nothing.
use mathlib.Core.Path.{ap, refl}
use Rattle.file_format.specs.Entries.{Entry}
use Rattle.file_format.proofs.ByValue.{filling_none, filling_next, filling_all}
use Rattle.packet.specs.Inner.{hash_row, size_row}
use Rattle.packet.proofs.Climb.{turn_in}
use Rattle.packet.proofs.checking.roots_in_turn.Goals as goal

pub loop-j-init : goal.loop-j-init
loop-j-init c = (filling_none _ _ _ c.requires.few, filling_none _ _ _ c.requires.few)

pub in_turn-entry-requires : goal.in_turn-entry-requires
in_turn-entry-requires c = let a = c.args in turn_in a.packet.now a.at a.place a.count c.loop-j.j c.requires c.loop-j-test.true

pub loop-j-preserved : goal.loop-j-preserved
loop-j-preserved c =
    let l = c.loop-j in
    let e = c.in_turn-entry in (
      filling_next _ _ _ l.j _ l.invariant.0 _ e.result.hash c.loop-j-test.true (ap (λ (x : Entry). x.hash) e.ensures) refl,
      filling_next _ _ _ l.j _ l.invariant.1 _ e.result.size c.loop-j-test.true (ap (λ (x : Entry). x.size) e.ensures) refl,
    )

pub returns-clause-hashes : goal.returns-clause-hashes
unfolding hash_row
returns-clause-hashes c = filling_all _ _ _ _ _ c.loop-j.invariant.0 c.loop-j-test.false

pub returns-clause-sizes : goal.returns-clause-sizes
unfolding size_row
returns-clause-sizes c = filling_all _ _ _ _ _ c.loop-j.invariant.1 c.loop-j-test.false
