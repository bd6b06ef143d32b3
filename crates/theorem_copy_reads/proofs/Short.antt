-- The short lookups get the same of two copies that agree on what is known: leaf after leaf, up to the first that is unknown. Assumes nothing.
use Prim.Native.Nat.{ℕ, ◌+◌, ◌<◌}
use mathlib.Core.Path.{◌≡◌, refl, ap₂}
use mathlib.Core.Bool.{true}
use mathlib.Core.List.{List}
use native.Mathlib.Nat.{mul-one}
use native.Mathlib.Omega.{arith}
use Rattle.answer_types.specs.Verdict.{done}
use Rattle.tree_index.specs.Tree.{index}
use Rattle.tree_index.proofs.Filled.{end_filled}
use Rattle.bitfield.specs.Known.{stored_known}
use Rattle.file_format.specs.Stored.{stored_size}
use Rattle.short_lookup.proofs.Same.{place_same, byte_same}
use Rattle.copy_short_lookup.specs.Short.{copy_short_place_of, copy_short_byte_at}
use Rattle.lookup.specs.Lookup.{found_behind}
use Rattle.theorem_copy_reads.proofs.Checks.{Agreed, size_same, one, two, copy_same}

module _ (t u bits : List ℕ) (n : ℕ) (g : Agreed t u bits n) (content : List ℕ) (size : ℕ) where
  leaf_same : (k : ℕ) → k < n → stored_known bits (index 0 k) ≡ true → stored_size t (index 0 k) ≡ stored_size u (index 0 k)
  leaf_same k l e = size_same t u bits n g (index 0 k) (end_filled n 0 k (omega (arith, mul-one (k + 1)))) e

  pub short_place_same : (i : ℕ) → copy_short_place_of (one t u bits n g content size) i ≡ copy_short_place_of (two t u bits n g content size) i
  unfolding copy_short_place_of
  short_place_same i =
      ap₂ found_behind (copy_same t u bits n g content size done) (place_same (stored_known bits) (stored_known bits) t u n (λ k h. refl) leaf_same i)

  pub short_byte_same : (x : ℕ) → copy_short_byte_at (one t u bits n g content size) x ≡ copy_short_byte_at (two t u bits n g content size) x
  unfolding copy_short_byte_at
  short_byte_same x =
      ap₂ found_behind (copy_same t u bits n g content size done) (byte_same (stored_known bits) (stored_known bits) t u n (λ k h. refl) leaf_same size x)
