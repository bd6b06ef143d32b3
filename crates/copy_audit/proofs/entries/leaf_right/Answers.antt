-- `copy_audit::entries::leaf_right` meets its contract. Assumes nothing.
use Prim.Native.Nat.{◌*◌}
use mathlib.Core.Path.{ap, ◌∙◌}
use mathlib.Core.Bool.{Bool}
use Rattle.blake2b.specs.Hash.{node_hash}
use Rattle.copy_audit.proofs.Judged.{chunk_bit, leaf_at}
use Rattle.audit.specs.Audit.{leaf_from}
use Rattle.copy_audit.proofs.entries.leaf_right.Goals as goal

pub is_held-held-requires : goal.is_held-held-requires
is_held-held-requires c = chunk_bit c.args.c.0 c.requires.files.field c.requires.chunk

pub leaf_right-requires : goal.leaf_right-requires
leaf_right-requires c = leaf_at c.requires.files c.requires.chunk

pub returns : goal.returns
returns c =
    let a = c.args in
    c.leaf_right.ensures ∙ ap (λ (h : Bool). leaf_from node_hash a.tree.now a.content.now a.size h (2 * a.c.0) a.start.0) c.is_held-held.ensures
