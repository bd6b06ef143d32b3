-- How many parents chunks complete, by the roots before and after. Assumes nothing.
use Prim.Native.Nat.{ℕ, zero, suc, ◌+◌, ◌-◌, ◌*◌, ◌/◌, ◌^◌, ◌≤◌, ◌<◌}
use mathlib.Core.Path.{◌≡◌, refl, ap, ◌∙◌}
use mathlib.Core.List.{[], ◌∷◌}
use native.Mathlib.Numerals.{add-one}
use native.Mathlib.Nat.{add-zero, zero-add, mul-one}
use native.Mathlib.Omega.{arith}
use lib.ListN.{length, length-append}
use Rattle.byte_strings.specs.Lists.{run, total}
use Rattle.tree_index.specs.Tree.{index, completed, root_of, roots_below, roots}
use Rattle.blake2b.specs.Hash.{blocks}
use Rattle.tree_index.proofs.Roots.{siblings, carried}
use Rattle.append_needs.specs.Needs.{parent_runs}
use Rattle.append_needs.proofs.Messages.{parent_runs_one}

length_siblings : (n d c : ℕ) → length (siblings n d c) ≡ c
unfolding siblings
length_siblings n d zero = refl
length_siblings n d (suc c) = length-append (siblings n (suc d) c) _ ∙ omega (arith, length_siblings n (suc d) c)

-- a chunk takes up as many roots as it completes parents, and puts one in their place
one_more_lem : (n : ℕ) → n < 1048576 → length (roots (n + 1)) + completed n ≡ length (roots n) + 1
one_more_lem n h =
    let w = carried n h in
    omega (
      arith,
      ap length w.before ∙ length-append w.kept (siblings n 0 (completed n)),
      ap length w.after ∙ length-append w.kept (index (completed n) ((n + 1) / 2 ^ completed n - 1) ∷ []),
      length_siblings n 0 (completed n),
    )

-- the roots of n chunks, and the parents that chunks behind them complete
pub completed_sum : (n k : ℕ) → n + k ≤ 1048576 → length (roots (n + k)) + total (run (λ i. completed i * parent_runs) n k) ≡ length (roots n) + k
unfolding run total
completed_sum n zero h = ap (λ (m : ℕ). length (roots m) + 0) (add-zero n) ∙ omega arith
completed_sum n (suc k) h =
    let one : completed n * parent_runs ≡ completed n = ap (λ (x : ℕ). completed n * x) parent_runs_one ∙ mul-one (completed n) in
    let at : suc n + k ≡ n + suc k = omega arith in
    let rest = completed_sum (suc n) k (omega arith) in
    omega (arith, one, one_more_lem n (omega arith), ap (λ (m : ℕ). length (roots m)) (add-one n), ap (λ (m : ℕ). length (roots m)) at, rest)

no_roots : length (roots 0) ≡ 0
unfolding roots roots_below root_of
no_roots = refl

-- so n chunks have no more roots
pub roots_le : (n : ℕ) → n ≤ 1048576 → length (roots n) ≤ n
roots_le n h =
    let at : length (roots (0 + n)) ≡ length (roots n) = ap (λ (m : ℕ). length (roots m)) (zero-add n) in
    omega (arith, completed_sum 0 n (omega arith), at, no_roots)

-- the parents `after` of n + count chunks, less those `before` of n chunks, each counted `each` times
pub record New (n count each before after : ℕ) : Type 0 where
  pub more : before ≤ after
  pub sum : each * (after - before) ≡ total (run (λ i. completed i * parent_runs) n count)
  pub small : each * (after - before) ≤ 1048576

module _ (n count each before after : ℕ) (h : n + count ≤ 1048576) (one : each ≡ blocks 73) (b : before + length (roots n) ≡ n)
    (a : after + length (roots (n + count)) ≡ n + count) where
  all_new : after ≡ before + total (run (λ i. completed i * parent_runs) n count)
  all_new = omega (arith, completed_sum n count h, b, a)

  one_each : each * (after - before) ≡ after - before
  unfolding blocks
  one_each = ap (λ (x : ℕ). x * (after - before)) one ∙ omega arith

  pub new_parents : New n count each before after
  new_parents = record { more = omega (arith, all_new); sum = omega (arith, all_new, one_each); small = omega (arith, all_new, one_each, a) }
