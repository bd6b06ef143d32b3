-- `copy_checks::heads_right` meets its contract: each header is the first that differs, or none does. Assumes nothing.
use mathlib.Core.Path.{refl, sym}
use Rattle.checks.proofs.Steps.{and_stop, and_pass, head_is}
use Rattle.copy_checks.specs.Meaning.{heads_right}
use Rattle.copy_checks.proofs.heads_right.Goals as goal

pub returns-then-not-has_header : goal.returns-then-not-has_header
unfolding heads_right
returns-then-not-has_header c = and_stop _ _ (head_is c.args.tree.now c.tree_header-first.ensures c.has_header.ensures (c.if-not-has_header.true))

pub returns : goal.returns
unfolding heads_right
returns c =
    and_pass _ _ _ (head_is c.args.tree.now c.tree_header-first.ensures c.has_header.ensures (c.if-not-has_header.false))
    (sym (head_is c.args.bitfield.now c.bitfield_header-second.ensures c.has_header-2.ensures refl))
