-- The short way gets the same of a register and of the same cut to its used sizes.
-- Assumes nothing.
use Prim.Native.Nat.{ℕ, ◌-◌, ◌<◌}
use mathlib.Core.Path.{◌≡◌, refl}
use mathlib.Core.List.{List}
use native.Mathlib.Omega.{arith}
use lib.ListN.{take}
use Rattle.answer_types.specs.Verdict.{done}
use Rattle.byte_strings.proofs.Lowest.{lowest_agree}
use Rattle.tree_index.specs.Tree.{index, entries}
use Rattle.tree_index.proofs.Index.{index_leaf}
use Rattle.bitfield.specs.Release.{stored_held}
use Rattle.file_format.specs.Sizes.{used_tree, used_bitfield}
use Rattle.file_format.specs.Stored.{stored_size}
use Rattle.file_format.specs.Belongs.{Register}
use Rattle.checks.specs.Checks.{judged}
use Rattle.lookup.specs.Descent.{always}
use Rattle.search.specs.Search.{sought_unless}
use Rattle.lookup.specs.Lookup.{found_behind}
use Rattle.short_lookup.specs.ShortLookup.{short_place_of, short_byte_at, short_search_for}
use Rattle.short_lookup.proofs.Same.{place_same, byte_same}
use Rattle.theorem_used_bytes.proofs.Cut.{cut, size_cut, held_cut, checks_cut}

module _ (t : List ℕ) (n : ℕ) where
  -- the leaves of n chunks lie within the used bytes
  pub leaf_cut : (k : ℕ) → k < n → stored_size (take (used_tree n) t) (index 0 k) ≡ stored_size t (index 0 k)
  unfolding entries
  leaf_cut k h = size_cut t n (index 0 k) (omega (arith, index_leaf k))

-- ---- a register

pub short_place_cut : (r : Register) (c : ℕ) → short_place_of (cut r) c ≡ short_place_of r c
unfolding short_place_of
short_place_cut r c =
    λ i. found_behind (judged (checks_cut r i) done)
    (place_same always always (cut r).tree r.tree r.n (λ k h. refl) (λ k h _. leaf_cut r.tree r.n k h) c i)

pub short_byte_cut : (r : Register) (b : ℕ) → short_byte_at (cut r) b ≡ short_byte_at r b
unfolding short_byte_at
short_byte_cut r b =
    λ i. found_behind (judged (checks_cut r i) done)
    (byte_same always always (cut r).tree r.tree r.n (λ k h. refl) (λ k h _. leaf_cut r.tree r.n k h) r.size b i)

pub short_search_cut : (r : Register) (from : ℕ) → short_search_for (cut r) from ≡ short_search_for r from
unfolding short_search_for
short_search_cut r from =
    λ i. sought_unless (judged (checks_cut r i) done)
    (lowest_agree (stored_held (take (used_bitfield r.n) r.bitfield)) (stored_held r.bitfield) from (r.n - from)
    (λ j p q before. held_cut r.bitfield r.n j (omega arith)) i)
