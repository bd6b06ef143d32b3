-- `copy_audit::entries::wrong_by` meets its contract. Assumes nothing.
use mathlib.Core.Path.{sym, ◌∙◌}
use Rattle.blake2b.specs.Hash.{node_hash}
use Rattle.audit.proofs.Bytes.{tree_bit}
use Rattle.audit.proofs.Entries.{entry_in_lem}
use Rattle.copy_audit.proofs.Judged.{leaf_chunk, node_at_lem, family_at, by_hole, by_unknown, by_leaf, by_parent}
use Rattle.copy_audit.proofs.entries.wrong_by.Goals as goal

pub is_filled-requires : goal.is_filled-requires
is_filled-requires c = (entry_in_lem c.requires.0.nodes c.requires.1).small

pub hole_right-requires : goal.hole_right-requires
hole_right-requires c = entry_in_lem c.requires.0.nodes c.requires.1

pub returns-then-not-is_filled : goal.returns-then-not-is_filled
returns-then-not-is_filled c =
    by_hole node_hash _ c.args.i.0
    (sym c.is_filled.ensures ∙ c.if-not-is_filled.true) c.hole_right.ensures c.wrong_unless.ensures

pub is_known-requires : goal.is_known-requires
is_known-requires c = tree_bit c.args.bitfield.now c.args.n c.args.i.0 c.requires.0.field (sym c.is_filled.ensures ∙ c.if-not-is_filled.false)

pub unknown_right-requires : goal.unknown_right-requires
unknown_right-requires c = (entry_in_lem c.requires.0.nodes c.requires.1, node_at_lem c.requires.0 c.requires.1)

pub returns-then-not-is_known : goal.returns-then-not-is_known
returns-then-not-is_known c =
    by_unknown node_hash _ c.args.i.0 (sym c.is_filled.ensures ∙ c.if-not-is_filled.false)
    (sym c.is_known.ensures ∙ c.if-not-is_known.true) c.unknown_right.ensures c.wrong_unless-then-not-is_known.ensures

pub wrong_by_leaf-requires : goal.wrong_by_leaf-requires
wrong_by_leaf-requires c = record { files = c.requires.0; chunk = leaf_chunk c.args.n c.args.i.0 c.requires.1 c.if-i-eq0.true c.chunk_of_leaf.ensures }

pub returns-then-i-eq0 : goal.returns-then-i-eq0
returns-then-i-eq0 c =
    by_leaf node_hash _ c.args.i.0 (sym c.is_filled.ensures ∙ c.if-not-is_filled.false) (sym c.is_known.ensures ∙ c.if-not-is_known.false)
    c.if-i-eq0.true c.chunk_of_leaf.ensures c.wrong_by_leaf.ensures

pub parent_right-requires : goal.parent_right-requires
parent_right-requires c = family_at c.requires.0 c.if-i-eq0.false (sym c.is_filled.ensures ∙ c.if-not-is_filled.false)

pub returns : goal.returns
returns c =
    by_parent node_hash _ c.args.i.0 (sym c.is_filled.ensures ∙ c.if-not-is_filled.false) (sym c.is_known.ensures ∙ c.if-not-is_known.false)
    c.if-i-eq0.false c.parent_right.ensures c.wrong_unless-2.ensures
