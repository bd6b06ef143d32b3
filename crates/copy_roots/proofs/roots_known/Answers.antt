-- `copy_roots::roots_known` meets its contract. Assumes nothing.
use mathlib.Core.Path.{sym, ap, ◌∙◌}
use Rattle.answer_types.specs.Verdict.{tree, done}
use Rattle.byte_strings.specs.Lowest.{Lowest}
use Rattle.audit.specs.Audit.{refused_at}
use Rattle.lookup.specs.Unknown.{first_entry}
use Rattle.copy_roots.proofs.roots_known.Goals as goal

pub returns-in-Some : goal.returns-in-Some
unfolding refused_at
returns-in-Some c = c.refuse_entry.ensures ∙ ap (λ (l : Lowest). refused_at 20 tree l done) (sym (ap first_entry c.in-Some.is) ∙ c.unknown_root.ensures)

pub returns-in-None : goal.returns-in-None
unfolding refused_at
returns-in-None c = ap (λ (l : Lowest). refused_at 20 tree l done) (sym (ap first_entry c.in-None.is) ∙ c.unknown_root.ensures)
