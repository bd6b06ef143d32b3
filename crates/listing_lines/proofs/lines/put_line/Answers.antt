-- `listing_lines::lines::put_line` meets its contract. Assumes nothing.
use Rattle.listing_lines.proofs.Put.{line_put}
use Rattle.listing_lines.proofs.lines.put_line.Goals as goal

pub returns : goal.returns
returns c =
    line_put c.args.i c.args.start c.args.len c.requires.1 c.put_digits-a.ensures c.put_text-b.ensures
    c.put_digits-c.ensures c.put_text-d.ensures c.put_digits-e.ensures c.put_text.ensures
