-- `copy_roots::prefix_root_hash` meets its contract. Assumes nothing.
use mathlib.Core.Path.{sym, ◌∙◌}
use Rattle.answer_types.specs.Meaning.{said}
use Rattle.copy_checks.specs.Copy.{Copy, copy_of}
use Rattle.copy_roots.proofs.Calls.{old_fits, old_post}
use Rattle.copy_roots.proofs.prefix_root_hash.Goals as goal

pub rooted-requires : goal.rooted-requires
rooted-requires c =
    let given : Copy = copy_of c.args.tree.now c.args.bitfield.now c.args.content.now c.args.n c.args.size in
    λ e. old_fits given c.args.m (sym c.judge_old-found.ensures ∙ e)

pub returns : goal.returns
returns c =
    let given : Copy = copy_of c.args.tree.now c.args.bitfield.now c.args.content.now c.args.n c.args.size in
    old_post given c.args.m (said c.judge_old-found.result) _ _ c.judge_old-found.ensures c.rooted.ensures
