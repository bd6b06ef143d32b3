-- `search::runs::by_groups` meets its contract. The invariant: what is left from k on decides. Assumes nothing.
use Prim.Native.Nat.{◌-◌, ◌≤◌}
use mathlib.Core.Path.{◌≡◌}
use Rattle.byte_strings.specs.Lowest.{lowest}
use Rattle.search.specs.Search.{not_missing}
use Rattle.search.proofs.runs.by_groups.Given as goal

abbrev pub invariant-loop-k : goal.invariant-loop-k
invariant-loop-k l = (l.from ≤ l.k) × (lowest (not_missing l.xs) l.from (l.end - l.from) ≡ lowest (not_missing l.xs) l.k (l.end - l.k))

abbrev pub decreases-loop-k : goal.decreases-loop-k
decreases-loop-k l = l.end - l.k
