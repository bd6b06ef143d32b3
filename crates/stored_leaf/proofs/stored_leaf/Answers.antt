-- `stored_leaf::stored_leaf` meets its contract. Assumes nothing.
use mathlib.Core.Path.{sym, ap, ◌∙◌}
use Rattle.answer_types.specs.Verdict.{Verdict, and_then}
use Rattle.file_format.specs.Belongs.{Register}
use Rattle.checks.specs.Lent.{register_of}
use Rattle.lookup.specs.Descent.{always}
use Rattle.stored_leaf.specs.StoredLeaf.{leaf_in, leaf_verdict}
use Rattle.stored_leaf.proofs.Calls.{register_files, post_as}
use Rattle.stored_leaf.proofs.stored_leaf.Goals as goal

pub give_leaf-requires : goal.give_leaf-requires
give_leaf-requires c =
    let given : Register = register_of c.args.tree.now c.args.signatures.now c.args.bitfield.now c.args.content.now c.args.n c.args.s
    c.args.size in
    λ e. register_files given (sym c.judge-found.ensures ∙ e)

pub returns : goal.returns
unfolding leaf_verdict
returns c = post_as (ap (λ (v : Verdict). and_then v (leaf_in always c.args.n c.args.chunk.0)) c.judge-found.ensures) c.give_leaf.ensures
