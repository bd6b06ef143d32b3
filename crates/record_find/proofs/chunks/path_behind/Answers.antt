-- What is told of the Node, and then the path's bytes.
use Prim.Native.Nat.{◌+◌, ◌≤◌}
use mathlib.Core.Path.{◌≡◌, sym, ap, ◌∙◌}
use native.Mathlib.Omega.{arith}
use lib.ListN.{length}
use Rattle.std.specs.Prelude.{Ok}
use Rattle.std.proofs.lemmas.Result.{err_from_is_err_and}
use Rattle.answer_types.specs.Verdict.{Verdict}
use Rattle.lookup.specs.Read.{verdict_found}
use Rattle.lookup.specs.Meaning.{verified_of}
use Rattle.record_node.specs.Post.{node_told}
use Rattle.record_find.specs.ChunkRecords.{node_after, path_after}
use Rattle.record_find.proofs.Chunk.{path_none, path_inside, path_compared}
use Rattle.record_find.proofs.chunks.path_behind.Goals as goal

pub returns-in_err-node : goal.returns-in_err-node
returns-in_err-node c =
    let p = err_from_is_err_and c.from_residual.result c.from_residual.ensures.1 in
    rw (p.1, p.2) (path_none (verdict_found (verified_of c.args.read)) _ _ c.args.path.now c.in_err-node.field-0.0 c.in_err-node.ensures)

pub overflow_add-to : goal.overflow_add-to
overflow_add-to c =
    let verdict : Verdict = verdict_found (verified_of c.args.read) in
    let node = c.in_ok-node.node in
    -- the Node is told of the bytes read
    let told : node_told (Ok node) ≡ node_after verdict c.bytes_of-bytes.result.now c.args.chunk.0 =
    c.in_ok-node.ensures ∙ sym (ap (λ d. node_after verdict d c.args.chunk.0) c.bytes_of-bytes.ensures) in
    let inside : node.path.at + node.path.len ≤ length c.bytes_of-bytes.result.now = path_inside verdict _ _ c.args.path.now node told in
    omega (arith, inside)

pub slice_bounds-same-end : goal.slice_bounds-same-end
slice_bounds-same-end c =
    let verdict : Verdict = verdict_found (verified_of c.args.read) in
    let node = c.in_ok-node.node in
    let told : node_told (Ok node) ≡ node_after verdict c.bytes_of-bytes.result.now c.args.chunk.0 =
    c.in_ok-node.ensures ∙ sym (ap (λ d. node_after verdict d c.args.chunk.0) c.bytes_of-bytes.ensures) in
    let inside : node.path.at + node.path.len ≤ length c.bytes_of-bytes.result.now = path_inside verdict _ _ c.args.path.now node told in
    omega (arith, inside)

pub returns : goal.returns
returns c =
    let verdict : Verdict = verdict_found (verified_of c.args.read) in
    let node = c.in_ok-node.node in
    let told : node_told (Ok node) ≡ node_after verdict c.bytes_of-bytes.result.now c.args.chunk.0 =
    c.in_ok-node.ensures ∙ sym (ap (λ d. node_after verdict d c.args.chunk.0) c.bytes_of-bytes.ensures) in
    let a = c.args in
    path_compared verdict _ _ a.path.now node told c.same.ensures
    ∙ ap (λ d. path_after verdict d a.chunk.0 a.path.now) c.bytes_of-bytes.ensures
