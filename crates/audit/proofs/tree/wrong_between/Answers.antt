use Rattle.audit.proofs.Entries.{at_entry, walking_start, walking_none, walking_entry, walking_next, walking_found, walking_done}
use Rattle.audit.specs.TreeWalk.{AtEntry}
use Rattle.blake2b.specs.Hash.{node_hash}
use mathlib.Core.Path.{◌∙◌, sym}
use native.Mathlib.Omega.{arith}
use Rattle.audit.proofs.tree.wrong_between.Goals as goal

pub returns-then-end-from : goal.returns-then-end-from
returns-then-end-from c =
    let a = c.args in
    walking_none node_hash a.tree.now a.bitfield.now a.content.now a.n a.size a.from.0 a.end.0 c.if-end-from.true

pub start_at-start-requires : goal.start_at-start-requires
start_at-start-requires c = (c.requires.0.nodes, omega (arith, c.if-end-from.false, c.requires.1))

pub loop-index-init : goal.loop-index-init
loop-index-init c = walking_start c.start_at-start.ensures

pub entry_right-requires : goal.entry_right-requires
entry_right-requires c = walking_entry c.loop-index.invariant c.requires.0 c.requires.1 c.loop-index-test.true

pub returns-then-not-entry_right : goal.returns-then-not-entry_right
returns-then-not-entry_right c = walking_found c.loop-index.invariant c.loop-index-test.true (sym c.entry_right.ensures ∙ c.if-not-entry_right.true) c.refuse_entry.ensures

pub start_behind-start-requires : goal.start_behind-start-requires
start_behind-start-requires c =
    let a = c.args in
    let at : AtEntry a.tree.now a.bitfield.now a.content.now a.n a.size c.loop-index.index c.loop-index.start.0 =
    walking_entry c.loop-index.invariant c.requires.0 c.requires.1 c.loop-index-test.true in
    record { entry = at_entry at; here = at.here }

pub loop-index-preserved : goal.loop-index-preserved
loop-index-preserved c = walking_next c.loop-index.invariant c.loop-index-test.true (sym c.entry_right.ensures ∙ c.if-not-entry_right.false) c.start_behind-start.ensures

pub returns : goal.returns
returns c = walking_done c.loop-index.invariant c.loop-index-test.false
