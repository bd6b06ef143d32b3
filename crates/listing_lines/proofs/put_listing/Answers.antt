-- `listing_lines::put_listing` meets its contract. Assumes nothing.
use native.Mathlib.Omega.{arith}
use borrow.Author.Tests.{not-true, not-false}
use Rattle.listing_lines.specs.Lines.{refused_line}
use Rattle.listing_lines.proofs.Listed.{refused_put, lines_put, read_printable}
use Rattle.listing_lines.proofs.put_listing.Goals as goal

pub returns-then-not-told : goal.returns-then-not-told
unfolding refused_line
returns-then-not-told c =
    refused_put c.args.input.now c.read-told.result.read _ c.read-told.ensures (not-true c.read-told.result.read c.if-not-told.true) c.put_text.ensures

pub put_lines-requires : goal.put_lines-requires
put_lines-requires c =
    let g = c.read-told in (
      omega (arith, c.requires.0),
      read_printable c.args.input.now g.result.read _ g.ensures (not-false g.result.read c.if-not-told.false),
    )

pub returns : goal.returns
returns c =
    lines_put c.args.input.now c.read-told.result.read _ c.read-told.ensures (not-false c.read-told.result.read c.if-not-told.false) c.put_lines.ensures
