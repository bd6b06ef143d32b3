-- As many bytes as a kind asks, and room for them. Assumes nothing.
use Prim.Native.Nat.{ℕ, ◌≤◌, ◌<◌}
use native.Mathlib.Omega.{arith}
use mathlib.Core.Path.{◌≡◌}
use mathlib.Core.Bool.{false}
use borrow.Author.Tests.{ne_eqb}
use Rattle.journal_making.specs.Making.{fitting}

-- a number that is no kind's has no bytes that fit
pub no_kind : (kind size old new : ℕ) → (1 ≤ kind → 4 < kind) → fitting kind size old new ≡ false
unfolding fitting
no_kind kind size old new h =
    rw (
      ne_eqb kind 1 (other 1 (omega arith) (omega arith)),
      ne_eqb kind 2 (other 2 (omega arith) (omega arith)),
      ne_eqb kind 3 (other 3 (omega arith) (omega arith)),
      ne_eqb kind 4 (other 4 (omega arith) (omega arith)),
      fitting,
    )
  where
    other : (k : ℕ) → 1 ≤ k → k ≤ 4 → kind ≡ k → ⊥
    other k a b e = let g = h (omega arith) in omega arith
