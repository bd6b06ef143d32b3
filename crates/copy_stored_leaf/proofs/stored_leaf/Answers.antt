-- `copy_stored_leaf::stored_leaf` meets its contract. Assumes nothing.
use mathlib.Core.Path.{sym, ap, ◌∙◌}
use Rattle.answer_types.specs.Verdict.{Verdict, and_then}
use Rattle.stored_leaf.specs.StoredLeaf.{leaf_in}
use Rattle.stored_leaf.proofs.Calls.{post_as}
use Rattle.copy_checks.specs.Copy.{Copy, copy_of, known}
use Rattle.copy_stored_leaf.specs.StoredLeaf.{copy_leaf_verdict}
use Rattle.copy_stored_leaf.proofs.Calls.{copy_files}
use Rattle.copy_stored_leaf.proofs.stored_leaf.Goals as goal

pub give_leaf-requires : goal.give_leaf-requires
give_leaf-requires c =
    let given : Copy = copy_of c.args.tree.now c.args.bitfield.now c.args.content.now c.args.n c.args.size in
    λ e. copy_files given (sym c.judge-found.ensures ∙ e)

pub returns : goal.returns
unfolding copy_leaf_verdict
returns c =
    let given : Copy = copy_of c.args.tree.now c.args.bitfield.now c.args.content.now c.args.n c.args.size in
    post_as (ap (λ (v : Verdict). and_then v (leaf_in (known given) c.args.n c.args.chunk.0)) c.judge-found.ensures) c.give_leaf.ensures
