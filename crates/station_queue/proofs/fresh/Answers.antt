-- `station_queue::fresh` meets its contract. Assumes nothing.
use Prim.Native.Nat.{ℕ}
use mathlib.Core.Path.{refl}
use lib.ListN.{replicate, length-replicate, get_or-replicate}
use Rattle.station_queue.proofs.Calls.{fresh_is}
use Rattle.station_queue.proofs.fresh.Goals as goal

pub returns : goal.returns
returns c =
    let z : ℕ = 0 in
    record { zeros = refl; table = fresh_is (replicate 161 z) (length-replicate 161 z) (λ i h. get_or-replicate 161 i z z h) }
