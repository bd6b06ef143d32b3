-- `listing_lines::lines::put_entry` meets its contract. Assumes nothing.
use mathlib.Core.Path.{sym, ap, ◌∙◌}
use native.Mathlib.Omega.{arith}
use Rattle.file_format.specs.Stored.{stored_start}
use Rattle.listing_lines.specs.Lines.{leaf_word, parent_word, hole_word}
use Rattle.listing_lines.proofs.Put.{same_put}
use Rattle.listing_lines.proofs.Entries.{entry_small, entry_in_lem, first_le, fewer_printable, line_hole, line_leaf, line_parent}
use Rattle.listing_lines.proofs.lines.put_entry.Goals as goal

pub is_filled-requires : goal.is_filled-requires
is_filled-requires c = omega (arith, entry_small c.args.n c.args.i.0 c.requires.1.few c.requires.2)

pub returns-then-not-is_filled : goal.returns-then-not-is_filled
unfolding hole_word
returns-then-not-is_filled c =
    same_put (line_hole c.args.tree.now c.args.n c.args.i.0
    (sym c.is_filled.ensures ∙ c.if-not-is_filled.true)) c.put_line.ensures

pub first_under-requires : goal.first_under-requires
first_under-requires c = entry_small c.args.n c.args.i.0 c.requires.1.few c.requires.2

pub start_of-start-requires : goal.start_of-start-requires
start_of-start-requires c =
    fewer_printable c.first_under.result.0
    (omega (
      arith,
      c.first_under.ensures,
      first_le c.args.n c.args.i.0
          (sym c.is_filled.ensures ∙ c.if-not-is_filled.false),
    )) c.requires.1

pub stored_size-len-requires : goal.stored_size-len-requires
stored_size-len-requires c = entry_in_lem c.args.tree.now c.args.i.0 (entry_small c.args.n c.args.i.0 c.requires.1.few c.requires.2) c.requires.1.room

pub depth-requires : goal.depth-requires
depth-requires c = omega (arith, entry_small c.args.n c.args.i.0 c.requires.1.few c.requires.2)

pub returns-then-depth-eq0 : goal.returns-then-depth-eq0
unfolding leaf_word
returns-then-depth-eq0 c =
    same_put (line_leaf c.args.tree.now c.args.n c.args.i.0 c.start_of-start.result.0 c.stored_size-len.result
    (sym c.is_filled.ensures ∙ c.if-not-is_filled.false) (sym c.depth.ensures ∙ c.if-depth-eq0.true)
    (c.start_of-start.ensures ∙ ap (stored_start c.args.tree.now) c.first_under.ensures) c.stored_size-len.ensures)
    c.put_line-then-depth-eq0.ensures

pub returns : goal.returns
unfolding parent_word
returns c =
    same_put (line_parent c.args.tree.now c.args.n c.args.i.0 c.start_of-start.result.0 c.stored_size-len.result
    (sym c.is_filled.ensures ∙ c.if-not-is_filled.false) (λ e. c.if-depth-eq0.false (c.depth.ensures ∙ e))
    (c.start_of-start.ensures ∙ ap (stored_start c.args.tree.now) c.first_under.ensures) c.stored_size-len.ensures)
    c.put_line-2.ensures
