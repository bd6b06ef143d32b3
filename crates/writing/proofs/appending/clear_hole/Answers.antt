-- `writing::appending::clear_hole` meets its contract. Assumes nothing.
use Prim.Native.Nat.{ℕ, ◌-◌, ◌*◌}
use mathlib.Core.Path.{ap, ◌∙◌}
use Rattle.writing.proofs.Stored.{no_hole_first, no_hole, a_hole, hole_in}
use Rattle.writing.proofs.appending.clear_hole.Goals as goal

-- the entry before the leaf of a chunk
abbrev before : ℕ → ℕ
before n = 2 * n - 1

pub returns-then-n-eq0 : goal.returns-then-n-eq0
returns-then-n-eq0 c = let a = c.args in no_hole_first a.tree.now a.n c.if-n-eq0.true

pub returns-then-is_filled : goal.returns-then-is_filled
returns-then-is_filled c =
    let a = c.args in
    no_hole a.tree.now a.n _ _ (c.parent_before-i.ensures ∙ ap before c.chunk_behind.ensures) c.is_filled.ensures c.if-is_filled.true

pub clear_entry-requires : goal.clear_entry-requires
clear_entry-requires c = hole_in c.args.tree.now c.args.n _ c.requires.0 c.requires.1 (c.parent_before-i.ensures ∙ ap before c.chunk_behind.ensures)

pub returns : goal.returns
returns c =
    a_hole c.args.tree.now c.args.n _ _ (c.parent_before-i.ensures ∙ ap before c.chunk_behind.ensures) c.is_filled.ensures _
    c.if-is_filled.false c.clear_entry.ensures
