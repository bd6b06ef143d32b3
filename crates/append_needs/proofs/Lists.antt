-- Sums over a list that 16 and 7 let pass. Assumes nothing.
use Prim.Native.Nat.{ℕ, ◌+◌, ◌≤◌, ◌<◌}
use mathlib.Core.Path.{◌≡◌, refl, ◌∙◌}
use mathlib.Core.List.{List, map}
use native.Mathlib.Omega.{arith}
use lib.ListN.{length, get_or}
use Rattle.std.specs.List.{sum, sum_by}
use Rattle.std.proofs.lemmas.List.Recursion.{is_sum_by}
use Rattle.std.proofs.lemmas.List.Sums.{sum_by-le, sum-map}
use Rattle.std.proofs.lemmas.Grind.{get_or_default_zero}
use Rattle.blake2b.specs.Hash.{blocks}
use Rattle.byte_strings.specs.Lists.{total}
use Rattle.checks.proofs.Lengths.{short_at}
use Rattle.append_needs.specs.Needs.{leaf_runs}
use Rattle.append_needs.specs.Inner.{Listed}

pub total_sum : (ls : List ℕ) → total ls ≡ sum ls
unfolding total
total_sum = is_sum_by total (λ x. x) refl (λ _ _. refl)

-- the runs of the leaves
abbrev pub all_runs : List ℕ → ℕ
all_runs ls = sum_by (λ (l : ℕ). blocks (9 + l)) ls

pub runs_sum : (ls : List ℕ) → total (map leaf_runs ls) ≡ all_runs ls
unfolding leaf_runs
runs_sum ls = total_sum (map leaf_runs ls) ∙ sum-map leaf_runs ls

pub short_each : (ls : List ℕ) → Listed ls → (k d : ℕ) → k < length ls → get_or ls k d ≤ 65536
short_each ls w k d h = omega (arith, get_or_default_zero ls k d h, short_at ls k w.short)

pub listed_sum : (ls : List ℕ) → Listed ls → sum ls ≤ 16777216
listed_sum ls w = omega (arith, sum_by-le (λ x. x) 65536 ls (short_each ls w), w.few)

pub listed_runs : (ls : List ℕ) → Listed ls → all_runs ls ≤ 131328
unfolding blocks
listed_runs ls w = omega (arith, sum_by-le (λ (l : ℕ). blocks (9 + l)) 513 ls (λ k d h. omega (arith, short_each ls w k d h)), w.few)
