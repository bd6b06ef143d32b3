-- `station_reads::named_by` meets its contract. Assumes nothing.
use Rattle.station_reads.proofs.Serving.{first_named, second_named}
use Rattle.station_reads.proofs.named_by.Goals as goal

pub returns-then-number-eq0 : goal.returns-then-number-eq0
returns-then-number-eq0 c = first_named c.args.number c.if-number-eq0.true

pub returns-else-number-eq0 : goal.returns-else-number-eq0
returns-else-number-eq0 c = second_named c.args.number c.if-number-eq0.false
