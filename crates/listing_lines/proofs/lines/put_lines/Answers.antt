-- `listing_lines::lines::put_lines` meets its contract. Assumes nothing.
use Rattle.listing_lines.proofs.Put.{both_put}
use Rattle.listing_lines.specs.Inner.{stored_lines}
use Rattle.listing_lines.proofs.lines.put_lines.Goals as goal

pub returns : goal.returns
unfolding stored_lines
returns c = both_put c.put_first-a.ensures c.put_entries.ensures
