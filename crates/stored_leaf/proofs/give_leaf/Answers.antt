-- `stored_leaf::give_leaf` meets its contract. Assumes nothing.
use Rattle.std.proofs.lemmas.Result.{err_from_is_err_and}
use Prim.Native.Nat.{◌<◌}
use mathlib.Core.Path.{◌≡◌, sym, ap, ◌∙◌, subst}
use Rattle.answer_types.specs.Verdict.{Verdict, done, and_then}
use Rattle.answer_types.specs.Meaning.{said}
use Rattle.tree_index.specs.Tree.{index}
use Rattle.file_format.specs.Stored.{stored_hash, stored_size}
use Rattle.file_format.specs.Inner.{EntryIn}
use Rattle.lookup.specs.Inner.{known_if}
use Rattle.lookup.proofs.Calls.{done_first, leaf_in_lem}
use Rattle.stored_leaf.specs.StoredLeaf.{leaf_in}
use Rattle.stored_leaf.proofs.Calls.{leaf_below, then_next, post_refused, post_done}
use Rattle.stored_leaf.proofs.give_leaf.Goals as goal

pub leaf_index-leaf-requires : goal.leaf_index-leaf-requires
leaf_index-leaf-requires c =
    let next : Verdict = leaf_in (known_if c.args.partly c.args.bitfield.now) c.args.n c.args.chunk.0 in
    -- the verdict that this call has
    let whole : Verdict = and_then (said c.args.found) next in
    -- where it is done the leaf lies within the tree file
    let leaf-lies : done ≡ whole → (c.args.chunk.0 < 2097152) × EntryIn c.args.tree.now (index 0 c.args.chunk.0) =
    λ e. leaf_in_lem c.args.chunk.0 (c.requires (done_first (said c.args.found) next (sym e))).roots
    (leaf_below (known_if c.args.partly c.args.bitfield.now) c.args.n c.args.chunk.0
    (then_next (said c.args.found) next (sym e))) in
    (leaf-lies (sym (ap said c.in_ok-judge_behind.was) ∙ c.judge_behind.ensures)).0

pub stored_hash-requires : goal.stored_hash-requires
stored_hash-requires c =
    let next : Verdict = leaf_in (known_if c.args.partly c.args.bitfield.now) c.args.n c.args.chunk.0 in
    let whole : Verdict = and_then (said c.args.found) next in
    let leaf-lies : done ≡ whole → (c.args.chunk.0 < 2097152) × EntryIn c.args.tree.now (index 0 c.args.chunk.0) =
    λ e. leaf_in_lem c.args.chunk.0 (c.requires (done_first (said c.args.found) next (sym e))).roots
    (leaf_below (known_if c.args.partly c.args.bitfield.now) c.args.n c.args.chunk.0
    (then_next (said c.args.found) next (sym e))) in
    subst (EntryIn c.args.tree.now) (sym c.leaf_index-leaf.ensures)
    (leaf-lies (sym (ap said c.in_ok-judge_behind.was) ∙ c.judge_behind.ensures)).1

pub stored_size-requires : goal.stored_size-requires
stored_size-requires c =
    let next : Verdict = leaf_in (known_if c.args.partly c.args.bitfield.now) c.args.n c.args.chunk.0 in
    let whole : Verdict = and_then (said c.args.found) next in
    let leaf-lies : done ≡ whole → (c.args.chunk.0 < 2097152) × EntryIn c.args.tree.now (index 0 c.args.chunk.0) =
    λ e. leaf_in_lem c.args.chunk.0 (c.requires (done_first (said c.args.found) next (sym e))).roots
    (leaf_below (known_if c.args.partly c.args.bitfield.now) c.args.n c.args.chunk.0
    (then_next (said c.args.found) next (sym e))) in
    subst (EntryIn c.args.tree.now) (sym c.leaf_index-leaf.ensures)
    (leaf-lies (sym (ap said c.in_ok-judge_behind.was) ∙ c.judge_behind.ensures)).1

pub returns-in_err-judge_behind : goal.returns-in_err-judge_behind
returns-in_err-judge_behind c =
    let next : Verdict = leaf_in (known_if c.args.partly c.args.bitfield.now) c.args.n c.args.chunk.0 in
    let whole : Verdict = and_then (said c.args.found) next in
    let p = err_from_is_err_and c.from_residual.result c.from_residual.ensures.1 in
    rw (p.1, p.2) (post_refused whole c.args.tree.now c.args.chunk.0 c.args.hash.now c.in_err-judge_behind.field-0.0 (sym (ap said c.in_err-judge_behind.was) ∙ c.judge_behind.ensures))

pub returns : goal.returns
returns c =
    let next : Verdict = leaf_in (known_if c.args.partly c.args.bitfield.now) c.args.n c.args.chunk.0 in
    let whole : Verdict = and_then (said c.args.found) next in
    let at = c.leaf_index-leaf.ensures in
    post_done whole c.args.tree.now c.args.chunk.0 c.args.hash.now c.stored_size.result c.stored_hash.result
    (sym (ap said c.in_ok-judge_behind.was) ∙ c.judge_behind.ensures)
    (c.stored_size.ensures ∙ ap (stored_size c.args.tree.now) at) (c.stored_hash.ensures ∙ ap (stored_hash c.args.tree.now) at)
