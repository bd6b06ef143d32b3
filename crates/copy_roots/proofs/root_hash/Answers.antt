-- `copy_roots::root_hash` meets its contract. Assumes nothing.
use mathlib.Core.Path.{sym, ◌∙◌}
use Rattle.answer_types.specs.Meaning.{said}
use Rattle.copy_checks.specs.Copy.{Copy, copy_of}
use Rattle.copy_roots.proofs.Calls.{root_fits, root_post}
use Rattle.copy_roots.proofs.root_hash.Goals as goal

pub rooted-requires : goal.rooted-requires
rooted-requires c =
    let given : Copy = copy_of c.args.tree.now c.args.bitfield.now c.args.content.now c.args.n c.args.size in
    λ e. root_fits given (sym c.judge-found.ensures ∙ e)

pub returns : goal.returns
returns c =
    let given : Copy = copy_of c.args.tree.now c.args.bitfield.now c.args.content.now c.args.n c.args.size in
    root_post given (said c.judge-found.result) _ _ c.judge-found.ensures c.rooted.ensures
