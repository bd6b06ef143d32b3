-- `lookup::reading::verify_placed` meets its contract: what a place tells of its bytes, and their hash. Assumes nothing.
use Prim.Native.Nat.{ℕ, ◌+◌}
use mathlib.Core.Path.{◌≡◌, sym, ap, ap₂, ◌∙◌, subst}
use mathlib.Core.Bool.{Bool, cond}
use mathlib.Core.List.{List}
use Rattle.std.specs.Prelude.{Result, Ok}
use native.Mathlib.Omega.{arith}
use Rattle.answer_types.specs.Verdict.{tree as tree_at}
use Rattle.byte_strings.specs.Lists.{part, same_list}
use Rattle.tree_index.specs.Tree.{index}
use Rattle.blake2b.specs.Hash.{node_hash}
use Rattle.file_format.specs.Messages.{leaf_message}
use Rattle.file_format.specs.Stored.{stored_hash}
use Rattle.file_format.specs.Inner.{EntryIn}
use Rattle.answer_types.specs.declared.Refusal.{Refusal}
use Rattle.lookup.specs.declared.places.Placed.{Placed}
use Rattle.lookup.specs.Lookup.{refusal, found}
use Rattle.std.proofs.lemmas.Result.{err_from_is_err_and}
use Rattle.lookup.specs.Read.{hash_judged}
use Rattle.lookup.specs.Meaning.{placed_of, LiesAt, PlacedIn}
use Rattle.lookup.proofs.Lookups.{as_part_lem}
use Rattle.lookup.proofs.reading.verify_placed.Goals as goal

-- where the bytes of a chunk with a place lie
lies : (tree content : List ℕ) (c : ℕ) (p : Result Placed Refusal) (q : Placed) → p ≡ Ok q → PlacedIn tree content c (placed_of p)
    → LiesAt tree content c q.start.0 q.length
lies tree content c p q e h = subst (PlacedIn tree content c) (ap placed_of e) h

-- and what the two hashes, compared, say of it
judged : (tree content : List ℕ) (c : ℕ) (p : Result Placed Refusal) (q : Placed) {leaf : ℕ} {stored hash : List ℕ} {b : Bool} → p ≡ Ok q
    → leaf ≡ index 0 c → stored ≡ stored_hash tree leaf → hash ≡ node_hash (leaf_message (part content q.start.0 q.length)) → b ≡ same_list stored hash
    → cond b (found q.start.0 (q.start.0 + q.length)) (refusal 10 (tree_at leaf)) ≡ hash_judged node_hash tree content c (placed_of p)
judged tree content c p q e i s h z =
    ap₂ (λ (x : Bool) (l : ℕ). cond x (found q.start.0 (q.start.0 + q.length)) (refusal 10 (tree_at l))) (z ∙ ap₂ same_list (s ∙ ap (stored_hash tree) i) h) i
    ∙ sym (ap (λ (x : Result Placed Refusal). hash_judged node_hash tree content c (placed_of x)) e)

pub overflow_add-end : goal.overflow_add-end
overflow_add-end c =
    let a = c.args in
    let h = (lies a.tree.now a.content.now a.chunk.0 a.placed _ c.in_ok-start.was c.requires).inside in
    record { fits = omega arith }

pub leaf_index-leaf-requires : goal.leaf_index-leaf-requires
leaf_index-leaf-requires c =
    let a = c.args in
    (lies a.tree.now a.content.now a.chunk.0 a.placed _ c.in_ok-start.was c.requires).small

pub stored_hash-stored-requires : goal.stored_hash-stored-requires
stored_hash-stored-requires c =
    let a = c.args in
    subst (EntryIn a.tree.now) (sym c.leaf_index-leaf.ensures)
    (lies a.tree.now a.content.now a.chunk.0 a.placed _ c.in_ok-start.was c.requires).entry

pub slice_bounds-leaf_hash-end : goal.slice_bounds-leaf_hash-end
slice_bounds-leaf_hash-end c =
    let a = c.args in
    (lies a.tree.now a.content.now a.chunk.0 a.placed _ c.in_ok-start.was c.requires).inside

pub returns-in_err-start : goal.returns-in_err-start
returns-in_err-start c =
    let a = c.args in
    let p = err_from_is_err_and c.from_residual.result c.from_residual.ensures.1 in
    rw (p.1, p.2) (sym (ap (λ (x : Result Placed Refusal). hash_judged node_hash a.tree.now a.content.now a.chunk.0 (placed_of x)) c.in_err-start.was))

pub returns-then-same : goal.returns-then-same
unfolding part
returns-then-same c =
    let a = c.args in
    let q = c.in_ok-start.field-0 in
    let hash = c.leaf_hash-hash.ensures ∙ ap (λ (l : List ℕ). node_hash (leaf_message l)) (as_part_lem a.content.now q.start.0 q.length) in
    judged a.tree.now a.content.now a.chunk.0 a.placed q c.in_ok-start.was c.leaf_index-leaf.ensures c.stored_hash-stored.ensures hash
    (sym c.if-same.true ∙ c.same.ensures)

pub returns-else-same : goal.returns-else-same
unfolding part
returns-else-same c =
    let a = c.args in
    let q = c.in_ok-start.field-0 in
    let hash = c.leaf_hash-hash.ensures ∙ ap (λ (l : List ℕ). node_hash (leaf_message l)) (as_part_lem a.content.now q.start.0 q.length) in
    judged a.tree.now a.content.now a.chunk.0 a.placed q c.in_ok-start.was c.leaf_index-leaf.ensures c.stored_hash-stored.ensures hash
    (sym c.if-same.false ∙ c.same.ensures)
