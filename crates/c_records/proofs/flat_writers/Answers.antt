-- One by one.
use Rattle.c_records.proofs.Flat.{mapped}
use Rattle.c_records.specs.Flat.{flat_writer, flat_writers, no_flat}
use Rattle.record_node.specs.Post.{no_writer}
use borrow.Author.Rules.{rules}
use lib.ListN.{get_or}
use Rattle.c_records.proofs.flat_writers.Goals as goal

pub returns : goal.returns
unfolding flat_writers
returns c =
    mapped (λ j. flat_writer (get_or c.args.list j no_writer)) c.map.result no_flat c.map.ensures.items.long
    (λ j h. let m = c.map.ensures.items.at j no_writer no_flat h in search (rules, m))
