-- `audit::tree::entry_right` meets its contract.  Assumes nothing.
use Rattle.audit.proofs.Entries.{at_entry, at_bit, at_leaf, at_parent, hole_entry, leaf_entry_lem, parent_entry}
use Rattle.blake2b.specs.Hash.{node_hash}
use native.Mathlib.Omega.{arith}
use mathlib.Core.Path.{◌∙◌, sym}
use Rattle.audit.proofs.tree.entry_right.Goals as goal

pub is_filled-requires : goal.is_filled-requires
is_filled-requires c = (at_entry c.requires).small

pub hole_right-requires : goal.hole_right-requires
hole_right-requires c = at_entry c.requires

pub returns-then-not-is_filled : goal.returns-then-not-is_filled
returns-then-not-is_filled c = hole_entry c.requires node_hash (sym c.is_filled.ensures ∙ c.if-not-is_filled.true) c.hole_right.ensures

pub is_held-held-requires : goal.is_held-held-requires
is_held-held-requires c = at_bit c.requires c.if-i-eq0.true c.chunk_of_leaf-c.ensures

pub leaf_right-requires : goal.leaf_right-requires
leaf_right-requires c = at_leaf c.requires c.if-i-eq0.true c.chunk_of_leaf-c.ensures

pub returns-then-i-eq0 : goal.returns-then-i-eq0
returns-then-i-eq0 c =
    leaf_entry_lem c.requires node_hash (omega (arith, c.requires.files.bytes)) c.if-i-eq0.true (sym c.is_filled.ensures ∙ c.if-not-is_filled.false)
    c.chunk_of_leaf-c.ensures c.is_held-held.ensures c.leaf_right.ensures

pub parent_right-requires : goal.parent_right-requires
parent_right-requires c = at_parent c.requires c.if-i-eq0.false (sym c.is_filled.ensures ∙ c.if-not-is_filled.false)

pub returns : goal.returns
returns c = parent_entry c.requires node_hash c.if-i-eq0.false (sym c.is_filled.ensures ∙ c.if-not-is_filled.false) c.parent_right.ensures
