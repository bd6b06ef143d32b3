-- Which of a node's children is the first that is not known, and where the bits of entries lie.
-- Assumes nothing.
use Prim.Native.Nat.{ℕ, zero, suc, ◌+◌, ◌/◌, ◌≤◌, ◌<◌}
use mathlib.Core.Path.{◌≡◌, refl, sym, ap}
use mathlib.Core.Bool.{Bool, true, false, cond}
use mathlib.Core.List.{List, [], ◌∷◌}
use native.Mathlib.Omega.{arith}
use lib.ListN.{length}
use Rattle.byte_strings.specs.Lowest.{nowhere, first}
use Rattle.tree_index.specs.Tree.{depth, left_child, right_child, filled, entries}
use Rattle.tree_index.proofs.Filled.{filled_left, filled_right, filled_below}
use Rattle.bitfield.specs.Append.{bits_place}
use Rattle.bitfield.specs.Image.{entry_count}
use Rattle.file_format.specs.Sizes.{used_bitfield}
use Rattle.lookup.specs.Descent.{always}
use Rattle.lookup.specs.Unknown.{first_unknown, children_read}
use Rattle.lookup.proofs.Visits.{by_parents}

-- ---- the first of a list

module _ (known : ℕ → Bool) where
  pub first_known : (i : ℕ) (is : List ℕ) → true ≡ known i → first_unknown known (i ∷ is) ≡ first_unknown known is
  unfolding first_unknown
  first_known i is e = ap (λ (b : Bool). cond b (first_unknown known is) (first i)) (sym e)

  pub first_unknown_lem : (i : ℕ) (is : List ℕ) → false ≡ known i → first_unknown known (i ∷ is) ≡ first i
  unfolding first_unknown
  first_unknown_lem i is e = ap (λ (b : Bool). cond b (first_unknown known is) (first i)) (sym e)

pub all_known : (is : List ℕ) → first_unknown always is ≡ nowhere
unfolding first_unknown
all_known [] = refl
all_known (i ∷ is) = all_known is

-- ---- the children

pub children_leaf : (i : ℕ) → depth i ≡ 0 → children_read (depth i) i ≡ []
unfolding children_read
children_leaf i e = ap (λ (d : ℕ). children_read d i) e

pub children_parent : (i : ℕ) → 0 < depth i → children_read (depth i) i ≡ left_child i ∷ right_child i ∷ []
unfolding children_read
children_parent i h = go (depth i) h
  where
    go : (d : ℕ) → 0 < d → children_read d i ≡ left_child i ∷ right_child i ∷ []
    go zero p = absurd (omega arith)
    go (suc d) p = refl

pub filled_children : (n i : ℕ) → 0 < depth i → filled n i ≡ true → (filled n (left_child i) ≡ true) × (filled n (right_child i) ≡ true)
filled_children n =
    by_parents (λ i l r. filled n i ≡ true → (filled n l ≡ true) × (filled n r ≡ true)) (λ d k e. (filled_left n d k e, filled_right n d k e))

-- ---- the bit of an entry lies within a bitfield file of n chunks

pub entry_bit : (bits : List ℕ) (n i : ℕ) → used_bitfield n ≤ length bits → filled n i ≡ true → bits_place (i / 16384 + 1) ≤ length bits
unfolding used_bitfield bits_place entry_count entries
entry_bit bits n i b f = omega (arith, filled_below n i f)
