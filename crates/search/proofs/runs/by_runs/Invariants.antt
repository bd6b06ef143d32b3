-- `search::runs::by_runs` meets its contract. The invariant: what is left from k on decides. Assumes nothing.
use Prim.Native.Nat.{◌-◌}
use mathlib.Core.Path.{◌≡◌}
use Rattle.byte_strings.specs.Lowest.{lowest}
use Rattle.search.specs.Search.{not_missing}
use Rattle.search.proofs.runs.by_runs.Given as goal

abbrev pub invariant-loop-k : goal.invariant-loop-k
invariant-loop-k l = lowest (not_missing l.xs) l.from (l.n - l.from) ≡ lowest (not_missing l.xs) l.k (l.n - l.k)

abbrev pub decreases-loop-k : goal.decreases-loop-k
decreases-loop-k l = l.n - l.k
