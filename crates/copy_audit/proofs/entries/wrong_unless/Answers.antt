-- `copy_audit::entries::wrong_unless` meets its contract. Assumes nothing.
use mathlib.Core.Path.{sym, ap}
use mathlib.Core.Bool.{Bool}
use Rattle.copy_audit.specs.Audit.{wrong_unless}
use Rattle.copy_audit.proofs.entries.wrong_unless.Goals as goal

pub returns-then-right : goal.returns-then-right
returns-then-right c = sym (ap (λ (b : Bool). wrong_unless b c.args.i.0) c.if-right.true)

pub returns : goal.returns
returns c = sym (ap (λ (b : Bool). wrong_unless b c.args.i.0) c.if-right.false)
