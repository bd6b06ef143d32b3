-- What stands in a part's range stands in the whole. Assumes nothing.
use Prim.Native.Nat.{ℕ, ◌+◌, ◌-◌, ◌*◌, ◌≤◌, ◌<◌}
use native.Mathlib.Omega.{arith}
use Rattle.parts_audit.specs.Range.{within}
use Rattle.parts_audit.proofs.ByTest.{by_test}

module _ (k a b i : ℕ) where
  pub index_within : a ≤ i → i < a + within k a b → i < k
  index_within h = by_test b k (λ m. i < a + (m - a) → i < k) (λ l q. omega arith) (λ l q. omega arith)

  -- a byte of the bitfield's entries
  pub byte_within_lem : 32 + 3328 * a ≤ i → i < 32 + 3328 * a + 3328 * within k a b → i < 32 + 3328 * k
  byte_within_lem h = by_test b k (λ m. i < 32 + 3328 * a + 3328 * (m - a) → i < 32 + 3328 * k) (λ l q. omega arith) (λ l q. omega arith)
