-- `packet::checking::in_turn` meets its contract. Assumes nothing.
use Prim.Native.Nat.{◌<◌}
use mathlib.Core.Path.{sym, ◌∙◌}
use native.Mathlib.Omega.{arith}
use Rattle.packet.specs.Inner.{turn_entry}
use Rattle.packet.proofs.Climb.{turned_before, turned_here, turned_behind}
use Rattle.packet.proofs.checking.in_turn.Goals as goal

pub returns-then-j-place : goal.returns-then-j-place
unfolding turn_entry
returns-then-j-place c = c.entry_node.ensures ∙ sym (turned_before _ _ _ _ c.if-j-place.true)

pub returns-then-j-place-2 : goal.returns-then-j-place-2
unfolding turn_entry
returns-then-j-place-2 c = sym (turned_here _ _ _ _ c.if-j-place-2.true)

pub overflow_add-at-2 : goal.overflow_add-at-2
overflow_add-at-2 c = let past : c.args.place < c.args.j = omega arith in omega (arith, c.requires.behind past)

pub entry_node-requires-2 : goal.entry_node-requires-2
entry_node-requires-2 c = let past : c.args.place < c.args.j = omega arith in omega (arith, c.requires.behind past)

pub returns : goal.returns
unfolding turn_entry
returns c = c.entry_node-2.ensures ∙ sym (turned_behind _ _ _ _ c.if-j-place.false c.if-j-place-2.false)
