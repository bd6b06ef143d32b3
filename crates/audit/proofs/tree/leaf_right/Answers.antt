-- `audit::tree::leaf_right` meets its contract. A start past the data is judged before anything is cut out. Assumes nothing.
use Prim.Native.Nat.{◌+◌, ◌-◌}
use Rattle.audit.proofs.Entries.{entry_as, leaf_length, leaf_long, leaf_past, leaf_zero, leaf_same}
use Rattle.audit.proofs.Capped.{start_past}
use Rattle.blake2b.specs.Hash.{node_hash}
use Rattle.file_format.specs.Stored.{stored_hash}
use Rattle.tree_index.proofs.Index.{index_leaf}
use mathlib.Core.Path.{◌∙◌, ap}
use native.Mathlib.Omega.{arith}
use Rattle.audit.proofs.tree.leaf_right.Goals as goal

pub stored_size-length-requires : goal.stored_size-length-requires
stored_size-length-requires c = entry_as (c.leaf_index-i.ensures ∙ index_leaf c.args.c.0) c.requires.entry

pub returns-then-length-gt65536 : goal.returns-then-length-gt65536
returns-then-length-gt65536 c =
    let long = leaf_length c.args.tree.now c.args.c.0 c.leaf_index-i.ensures c.stored_size-length.ensures in
    let a = c.args in
    leaf_long node_hash a.tree.now a.content.now a.size a.held a.c.0 a.start.0 long (omega (arith, c.if-length-gt65536.true))

pub returns-then-size-start : goal.returns-then-size-start
returns-then-size-start c =
    let a = c.args in
    start_past node_hash a.tree.now a.content.now a.size a.held a.c.0 a.start.0 c.if-size-start.true

pub returns-then-size-start-2 : goal.returns-then-size-start-2
returns-then-size-start-2 c =
    let long = leaf_length c.args.tree.now c.args.c.0 c.leaf_index-i.ensures c.stored_size-length.ensures in
    let a = c.args in
    leaf_past node_hash a.tree.now a.content.now a.size a.held a.c.0 a.start.0 long (omega (arith, c.if-length-gt65536.false))
    (omega (arith, c.if-size-start-2.true, c.if-size-start.false))

pub returns-then-not-held : goal.returns-then-not-held
returns-then-not-held c =
    let long = leaf_length c.args.tree.now c.args.c.0 c.leaf_index-i.ensures c.stored_size-length.ensures in
    let a = c.args in
    leaf_zero node_hash a.tree.now a.content.now a.size a.held a.c.0 a.start.0 long (omega (arith, c.if-length-gt65536.false))
    {m = a.start.0 + c.stored_size-length.result - a.start.0} (omega (arith, c.if-size-start-2.false, c.if-size-start.false)) (omega arith)
    (c.if-not-held.true) c.is_zero.ensures

pub stored_hash-stored-requires : goal.stored_hash-stored-requires
stored_hash-stored-requires c = entry_as (c.leaf_index-i.ensures ∙ index_leaf c.args.c.0) c.requires.entry

pub returns : goal.returns
returns c =
    let long = leaf_length c.args.tree.now c.args.c.0 c.leaf_index-i.ensures c.stored_size-length.ensures in
    let a = c.args in
    leaf_same node_hash a.tree.now a.content.now a.size a.held a.c.0 a.start.0 long (omega (arith, c.if-length-gt65536.false))
    {m = a.start.0 + c.stored_size-length.result - a.start.0} (omega (arith, c.if-size-start-2.false, c.if-size-start.false)) (omega arith)
    (c.if-not-held.false) (c.stored_hash-stored.ensures ∙ ap (stored_hash a.tree.now) (c.leaf_index-i.ensures ∙ index_leaf a.c.0)) c.leaf_hash-expected.ensures c.same.ensures
