-- `listing_lines::list_on` meets its contract. Assumes nothing.
use Rattle.listing_lines.proofs.Listed.{list_short, list_copied}
use Rattle.listing_lines.proofs.list_on.Goals as goal

pub returns-then-out-len : goal.returns-then-out-len
returns-then-out-len c = list_short c.args.input.now c.args.out.now c.put_listing-len.ensures c.if-out-len.true

pub returns : goal.returns
returns c = list_copied c.args.input.now c.args.out.now c.put_listing-len.ensures c.if-out-len.false c.copy_to.ensures
