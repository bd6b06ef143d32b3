-- `listing_lines::lines::put_first` meets its contract. Assumes nothing.
use Rattle.listing_lines.proofs.Put.{first_put}
use Rattle.listing_lines.specs.Lines.{chunks_word, bytes_word, roots_word}
use Rattle.listing_lines.proofs.lines.put_first.Goals as goal

pub returns : goal.returns
unfolding chunks_word bytes_word roots_word
returns c =
    first_put c.args.n c.args.size c.put_text-a.ensures c.put_digits-b.ensures c.put_text-c.ensures
    c.put_digits-d.ensures c.put_text-e.ensures c.put_roots-f.ensures c.put_text.ensures
