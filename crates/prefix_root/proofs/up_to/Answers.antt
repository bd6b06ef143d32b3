-- `prefix_root::up_to` meets its contract. Assumes nothing.
use mathlib.Core.Path.{sym, ◌∙◌}
use Rattle.prefix_root.proofs.Calls.{own_right, own_wrong}
use Rattle.prefix_root.proofs.up_to.Goals as goal

pub returns-then-n-m : goal.returns-then-n-m
returns-then-n-m c = c.refuse.ensures ∙ sym (own_wrong _ _ c.if-n-m.true)

pub returns : goal.returns
returns c = sym (own_right _ _ c.if-n-m.false)
