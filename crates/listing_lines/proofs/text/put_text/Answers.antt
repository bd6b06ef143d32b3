-- `listing_lines::text::put_text` meets its contract. Assumes nothing.
use Rattle.listing_lines.proofs.Put.{text_put}
use Rattle.listing_lines.proofs.text.put_text.Goals as goal

pub returns : goal.returns
returns c = text_put c.args.out.now c.args.at c.args.text.now _ c.requires c.copy_to.ensures
