-- `compare::compare_roots` meets its contract. Assumes nothing.
use Rattle.blake2b.specs.Hash.{node_hash}
use Rattle.compare.proofs.Walked.{top_differ, top_roots, top_equal}
use Rattle.compare.proofs.compare_roots.Goals as goal

pub returns-then-not-same : goal.returns-then-not-same
returns-then-not-same c =
    let a = c.args in
    top_differ node_hash a.tree.now a.tree2.now a.n a.n2 c.stored_root_hash-hash.ensures
    c.stored_root_hash-hash2.ensures c.same.ensures (c.if-not-same.true)

pub returns-then-not-same_roots : goal.returns-then-not-same_roots
returns-then-not-same_roots c =
    let a = c.args in
    top_roots node_hash a.tree.now a.tree2.now a.n a.n2 c.stored_root_hash-hash.ensures
    c.stored_root_hash-hash2.ensures c.same.ensures c.same_roots.ensures (c.if-not-same.false) (c.if-not-same_roots.true)

pub returns : goal.returns
returns c =
    let a = c.args in
    top_equal node_hash a.tree.now a.tree2.now a.n a.n2 c.stored_root_hash-hash.ensures
    c.stored_root_hash-hash2.ensures c.same.ensures c.same_roots.ensures (c.if-not-same.false) (c.if-not-same_roots.false)
