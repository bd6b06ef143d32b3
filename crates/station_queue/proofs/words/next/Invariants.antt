-- `station_queue::words::next` meets its contract. The invariant: the stations passed have no read waiting. Assumes nothing.
use mathlib.Core.Path.{◌≡◌}
use Rattle.station_queue.specs.Table.{next}
use Rattle.station_queue.specs.Words.{table_of}
use Rattle.station_queue.proofs.Calls.{turn_from}
use Rattle.station_queue.proofs.words.next.Given as goal

abbrev pub invariant-loop-k : goal.invariant-loop-k
invariant-loop-k l = next (table_of l.table) ≡ turn_from l.table l.last l.k
