-- `copy_audit::entries::wrong_by_leaf` meets its contract. Assumes nothing.
use mathlib.Core.Path.{sym, ap, ◌∙◌}
use native.Mathlib.Omega.{arith}
use Rattle.blake2b.specs.Hash.{node_hash}
use Rattle.lookup.specs.Inner.{ending_of}
use Rattle.copy_checks.specs.Descents.{copy_to_chunk}
use Rattle.copy_audit.proofs.Judged.{leaf_unknown, leaf_stopped, leaf_reached}
use Rattle.copy_audit.proofs.entries.wrong_by_leaf.Goals as goal

pub leaf_index-leaf-requires : goal.leaf_index-leaf-requires
leaf_index-leaf-requires c = omega (arith, c.requires.chunk, c.requires.files.nodes.count)

pub from_roots-requires : goal.from_roots-requires
from_roots-requires c = record { roots = c.requires.files.nodes; bitfield = λ _. c.requires.files.field.inside }

pub leaf_right-right-requires : goal.leaf_right-right-requires
leaf_right-right-requires c = c.requires

pub returns-in-Stopped : goal.returns-in-Stopped
unfolding copy_to_chunk
returns-in-Stopped c =
    leaf_stopped node_hash _ c.args.c.0 (omega (arith, c.well_formed.1.1.0.1, c.requires.files.bytes))
    (sym (ap ending_of c.in-Stopped.is) ∙ c.from_roots.ensures)

pub returns-in-Unknown : goal.returns-in-Unknown
unfolding copy_to_chunk
returns-in-Unknown c =
    leaf_unknown node_hash _ c.args.c.0 (omega (arith, c.well_formed.1.1.0.1, c.requires.files.bytes))
    (sym (ap ending_of c.in-Unknown.is) ∙ c.from_roots.ensures) c.leaf_index-leaf.ensures

pub returns-in-Reached : goal.returns-in-Reached
unfolding copy_to_chunk
returns-in-Reached c =
    c.wrong_unless.ensures
    ∙ leaf_reached node_hash _ c.args.c.0 (omega (arith, c.well_formed.1.1.0.1, c.requires.files.bytes))
    (sym (ap ending_of c.in-Reached.is) ∙ c.from_roots.ensures) c.leaf_index-leaf.ensures c.leaf_right-right.ensures
