-- One by one.
use Rattle.c_records.proofs.Flat.{mapped}
use Rattle.c_records.specs.Flat.{writer_in, writers_in, no_flat}
use Rattle.record_node.specs.Post.{no_writer}
use borrow.Author.Rules.{rules}
use lib.ListN.{get_or}
use Rattle.c_records.proofs.writers_in.Goals as goal

pub returns : goal.returns
unfolding writers_in
returns c =
    mapped (λ j. writer_in (get_or c.args.list j no_flat)) c.map.result no_writer c.map.ensures.items.long
    (λ j h. let m = c.map.ensures.items.at j no_flat no_writer h in search (rules, m))
