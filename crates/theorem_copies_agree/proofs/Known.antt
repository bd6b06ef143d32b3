-- Where every entry but the holes is known, no lookup reads an unknown one. Assumes nothing.
use Prim.Native.Nat.{ℕ, zero, suc, ◌+◌, ◌*◌, ◌<◌}
use mathlib.Core.Path.{◌≡◌, refl, sym, ap, ◌∙◌, subst}
use mathlib.Core.Bool.{Bool, true, false, cond}
use mathlib.Core.List.{List, [], ◌∷◌}
use native.Mathlib.Nat.{mul-one}
use native.Mathlib.Omega.{arith}
use lib.Dec.{eqb}
use lib.ListN.{length, get_or}
use Rattle.byte_strings.specs.Lowest.{nowhere, first}
use Rattle.tree_index.specs.Tree.{index, depth, block, filled, roots}
use Rattle.tree_index.proofs.Filled.{end_filled, filled_below, filled_left, filled_right}
use Rattle.tree_index.proofs.Index.{index_of}
use Rattle.tree_index.proofs.Roots.{root_filled}
use Rattle.file_format.specs.Stored.{stored_size}
use Rattle.lookup.specs.Descent.{always, chunk_within, byte_within}
use Rattle.short_lookup.specs.ShortLookup.{short_place_in, short_byte_in}
use Rattle.short_lookup.proofs.Same.{place_same, byte_same}
use Rattle.copy_checks.specs.Copy.{Copy, known}
use Rattle.lookup.specs.Unknown.{first_unknown}
use Rattle.copy_checks.specs.Checks.{unknown_root}
use Rattle.lookup.proofs.ReadOrder.{reads_below, reads_from, reads}
use Rattle.copy_checks.proofs.Descents.{unknown_to_chunk, unknown_to_byte}
use Rattle.theorem_copies_agree.specs.Theorems.{AllKnown}

module _ (known : ℕ → Bool) (n : ℕ) (all : (i : ℕ) → filled n i ≡ true → known i ≡ true) where
  -- one more that is no hole
  one : (i : ℕ) (is : List ℕ) → filled n i ≡ true → first_unknown known is ≡ nowhere → first_unknown known (i ∷ is) ≡ nowhere
  unfolding first_unknown
  one i is f e = ap (λ (b : Bool). cond b (first_unknown known is) (first i)) (all i f) ∙ e

  none : first_unknown known [] ≡ nowhere
  unfolding first_unknown
  none = refl

  -- ---- a descent

  module _ (within : ℕ → ℕ → ℕ → ℕ → Bool) (t : List ℕ) where
    abbrev Below : ℕ → Type 0
    Below d = (k start : ℕ) → filled n (index d k) ≡ true → first_unknown known (reads_below within t d k start) ≡ nowhere

    below : (d : ℕ) → Below d
    unfolding reads_below
    below zero k start f = none
    below (suc d) k start f =
        one (index d (2 * k)) _ (filled_left n d k f)
        (one (index d (2 * k + 1)) _ (filled_right n d k f)
        (on (below d) (eqb (stored_size t (index (suc d) k)) (stored_size t (index d (2 * k)) + stored_size t (index d (2 * k + 1))))
        (within d (2 * k) start (stored_size t (index d (2 * k))))))
      where
        on : Below d → (a b : Bool)
            → first_unknown known (elim a [
              | true ↦ elim b
                  [ true ↦ reads_below within t d (2 * k) start | false ↦ reads_below within t d (2 * k + 1) (start + stored_size t (index d (2 * k))) ]
              | false ↦ []
            ]) ≡ nowhere
        on rec true true = rec (2 * k) start (filled_left n d k f)
        on rec true false = rec (2 * k + 1) (start + stored_size t (index d (2 * k))) (filled_right n d k f)
        on rec false b = none

    from : (is : List ℕ) (start : ℕ) → ((j : ℕ) → j < length is → filled n (get_or is j 0) ≡ true) → first_unknown known (reads_from within t is start) ≡ nowhere
    unfolding reads_from
    from [] start h = none
    from (i ∷ is) start h =
        one i _ (h 0 (omega arith))
        (on (within (depth i) (block i) start (stored_size t i)) (from is (start + stored_size t i) (λ j l. h (suc j) (omega arith))))
      where
        on : (b : Bool) → first_unknown known (reads_from within t is (start + stored_size t i)) ≡ nowhere
            → first_unknown known (elim b [ true ↦ reads_below within t (depth i) (block i) start | false ↦ reads_from within t is (start + stored_size t i) ]) ≡ nowhere
        on true e = below (depth i) (block i) start (subst (λ (x : ℕ). filled n x ≡ true) (sym (index_of i)) (h 0 (omega arith)))
        on false e = e

    descent_known : first_unknown known (reads within t n) ≡ nowhere
    unfolding reads
    descent_known = from (roots n) 0 (root_filled n)

  -- ---- roots

  listed : (is : List ℕ) → ((j : ℕ) → j < length is → filled n (get_or is j 0) ≡ true) → first_unknown known is ≡ nowhere
  listed [] h = none
  listed (i ∷ is) h = one i is (h 0 (omega arith)) (listed is (λ j l. h (suc j) (omega arith)))

-- ---- a copy

module _ (c : Copy) (all : AllKnown c) where
  filled_known : (i : ℕ) → filled c.n i ≡ true → known c i ≡ true
  unfolding AllKnown
  filled_known i f = all i (filled_below c.n i f) f

  pub root_known : unknown_root c ≡ nowhere
  unfolding unknown_root
  root_known = listed (known c) c.n filled_known (roots c.n) (root_filled c.n)

  pub chunk_known : (i : ℕ) → unknown_to_chunk c i ≡ nowhere
  unfolding unknown_to_chunk
  chunk_known i = descent_known (known c) c.n filled_known (chunk_within i) c.tree

  pub byte_known : (b : ℕ) → unknown_to_byte c b ≡ nowhere
  unfolding unknown_to_byte
  byte_known b = descent_known (known c) c.n filled_known (byte_within b) c.tree

  -- ---- the short lookups are a register's

  leaf_known : (k : ℕ) → k < c.n → known c (index 0 k) ≡ true
  leaf_known k h = filled_known (index 0 k) (end_filled c.n 0 k (omega (arith, mul-one (k + 1))))

  pub short_place_known : (i : ℕ) → short_place_in (known c) c.tree c.n i ≡ short_place_in always c.tree c.n i
  short_place_known = place_same (known c) always c.tree c.tree c.n leaf_known (λ k h _. refl)

  pub short_byte_known : (b : ℕ) → short_byte_in (known c) c.tree c.n c.size b ≡ short_byte_in always c.tree c.n c.size b
  short_byte_known = byte_same (known c) always c.tree c.tree c.n leaf_known (λ k h _. refl) c.size
