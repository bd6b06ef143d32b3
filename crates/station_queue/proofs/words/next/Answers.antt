use Prim.Native.Nat.{◌%◌}
use mathlib.Core.Path.{refl}
use lib.ListN.{get_or}
use Rattle.station_queue.specs.Words.{last_at}
use Rattle.station_queue.proofs.Calls.{turn_starts}
use Rattle.station_queue.proofs.words.next.Goals as goal

pub loop-k-init : goal.loop-k-init
unfolding last_at
loop-k-init c = let t = c.args.table.now in turn_starts t (get_or t 160 0 % 16) refl
