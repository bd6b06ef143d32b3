-- `prefix_root::prefix_root` meets its contract. Assumes nothing.
use mathlib.Core.Path.{sym, ◌∙◌}
use Rattle.answer_types.specs.Meaning.{said}
use Rattle.prefix_root.proofs.Calls.{old_fits, old_post}
use Rattle.prefix_root.proofs.prefix_root.Goals as goal

pub rooted-requires : goal.rooted-requires
rooted-requires c = λ e. old_fits _ c.args.m (sym c.judge-found.ensures ∙ e)

pub returns : goal.returns
returns c = old_post _ c.args.m (said c.judge-found.result) _ _ c.judge-found.ensures c.rooted.ensures
