-- The short way gets the same of a copy and of the same cut to its used sizes. Assumes nothing.
use Prim.Native.Nat.{ℕ, ◌+◌, ◌-◌, ◌<◌}
use mathlib.Core.Path.{◌≡◌, ap₂}
use native.Mathlib.Nat.{mul-one}
use native.Mathlib.Omega.{arith}
use Rattle.answer_types.specs.Verdict.{done}
use Rattle.byte_strings.proofs.Lowest.{lowest_agree}
use Rattle.tree_index.specs.Tree.{index}
use Rattle.tree_index.proofs.Filled.{end_filled}
use Rattle.bitfield.specs.Release.{stored_held}
use Rattle.search.specs.Search.{sought_unless}
use Rattle.lookup.specs.Lookup.{found_behind}
use Rattle.short_lookup.proofs.Same.{place_same, byte_same}
use Rattle.theorem_used_bytes.proofs.Cut.{held_cut}
use Rattle.theorem_used_bytes.proofs.ShortLookups.{leaf_cut}
use Rattle.copy_checks.specs.Copy.{Copy, known}
use Rattle.copy_short_lookup.specs.Short.{copy_short_place_of, copy_short_byte_at, copy_short_search}
use Rattle.theorem_copy_used_bytes.proofs.Cut.{cut_copy, known_cut, judged_cut}

module _ (c : Copy) where
  -- the bits of the leaves lie within the used bytes, and so do the leaves
  leaf_known : (k : ℕ) → k < c.n → known (cut_copy c) (index 0 k) ≡ known c (index 0 k)
  leaf_known k h = known_cut c.bitfield c.n (index 0 k) (end_filled c.n 0 k (omega (arith, mul-one (k + 1))))

  pub short_place_cut : (i : ℕ) → copy_short_place_of (cut_copy c) i ≡ copy_short_place_of c i
  unfolding copy_short_place_of
  short_place_cut i =
      ap₂ found_behind (judged_cut c done)
      (place_same (known (cut_copy c)) (known c) (cut_copy c).tree c.tree c.n leaf_known (λ k h _. leaf_cut c.tree c.n k h) i)

  pub short_byte_cut : (x : ℕ) → copy_short_byte_at (cut_copy c) x ≡ copy_short_byte_at c x
  unfolding copy_short_byte_at
  short_byte_cut x =
      ap₂ found_behind (judged_cut c done)
      (byte_same (known (cut_copy c)) (known c) (cut_copy c).tree c.tree c.n leaf_known (λ k h _. leaf_cut c.tree c.n k h) c.size x)

  pub short_search_cut : (from : ℕ) → copy_short_search (cut_copy c) from ≡ copy_short_search c from
  unfolding copy_short_search
  short_search_cut from =
      ap₂ sought_unless (judged_cut c done)
      (lowest_agree (stored_held (cut_copy c).bitfield) (stored_held c.bitfield) from (c.n - from)
      (λ j p q before. held_cut c.bitfield c.n j (omega arith)))
