-- `copy_audit::entries::unknown_right` meets its contract. Assumes nothing.
use mathlib.Core.Path.{sym, ap, ◌∙◌}
use mathlib.Core.Bool.{not}
use Rattle.checks.proofs.Steps.{and_stop, and_pass}
use Rattle.copy_audit.proofs.entries.unknown_right.Goals as goal

pub returns-then-not-hole_right : goal.returns-then-not-hole_right
returns-then-not-hole_right c = and_stop _ _ (sym c.hole_right.ensures ∙ c.if-not-hole_right.true)

pub returns : goal.returns
returns c = and_pass _ _ (not c.held_leaf.result) (sym c.hole_right.ensures ∙ c.if-not-hole_right.false) (ap not c.held_leaf.ensures)
