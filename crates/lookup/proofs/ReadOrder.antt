-- The entries that a descent reads, in the order in which it comes to them. A descent that knows only some entries is the register's, unless one of those
-- that the register's reads is unknown: then it ends at the first of these.
-- Assumes nothing.
use Prim.Native.Nat.{ℕ, zero, suc, ◌+◌, ◌*◌}
use mathlib.Core.Path.{◌≡◌, refl, ap, ◌∙◌}
use mathlib.Core.Bool.{Bool, true, false, cond}
use mathlib.Core.List.{List, [], ◌∷◌}
use lib.Dec.{eqb}
use Rattle.byte_strings.specs.Lowest.{Lowest, nowhere, first}
use Rattle.tree_index.specs.Tree.{index, depth, block, roots}
use Rattle.file_format.specs.Stored.{stored_size}
use Rattle.lookup.specs.Descent.{Ending, stopped, unknown, if_known, always, descend, from_roots, descent}
use Rattle.lookup.specs.Unknown.{first_unknown}

module _ (within : ℕ → ℕ → ℕ → ℕ → Bool) (t : List ℕ) where
  -- below the block k of 2^d chunks: of each parent that is visited the left child and then the right one, whose lengths are added before the sum is judged
  unfoldable pub reads_below : ℕ → ℕ → ℕ → List ℕ
  reads_below zero k start = []
  reads_below (suc d) k start =
      index d (2 * k) ∷ index d (2 * k + 1)
      ∷ elim (eqb (stored_size t (index (suc d) k)) (stored_size t (index d (2 * k)) + stored_size t (index d (2 * k + 1)))) [
        | true ↦ elim (within d (2 * k) start (stored_size t (index d (2 * k))))
            [ true ↦ reads_below d (2 * k) start | false ↦ reads_below d (2 * k + 1) (start + stored_size t (index d (2 * k))) ]
        | false ↦ []
      ]

  -- "the roots to its left first", then the root that has what is sought, and what is read below it
  unfoldable pub reads_from : List ℕ → ℕ → List ℕ
  reads_from [] start = []
  reads_from (i ∷ is) start =
      i
      ∷ elim (within (depth i) (block i) start (stored_size t i))
      [ true ↦ reads_below (depth i) (block i) start | false ↦ reads_from is (start + stored_size t i) ]

  -- among the roots of n chunks
  unfoldable pub reads : ℕ → List ℕ
  reads n = reads_from (roots n) 0

-- the first unknown entry that is read, or else the ending
abbrev pub pair : Lowest → Ending → Ending
pair nowhere e = e
pair (first i) e = unknown i

module _ (known : ℕ → Bool) where
  -- one entry is read
  read : (i : ℕ) (is : List ℕ) (e : Ending) → if_known (known i) i (pair (first_unknown known is) e) ≡ pair (first_unknown known (i ∷ is)) e
  unfolding first_unknown
  read i is e = go (known i)
    where
      go : (b : Bool) → if_known b i (pair (first_unknown known is) e) ≡ pair (cond b (first_unknown known is) (first i)) e
      go true = refl
      go false = refl

  module _ (within : ℕ → ℕ → ℕ → ℕ → Bool) (t : List ℕ) where
    pub law_below : (d k s : ℕ) → descend known within t d k s ≡ pair (first_unknown known (reads_below within t d k s)) (descend always within t d k s)
    unfolding descend reads_below first_unknown
    law_below zero k s = refl
    law_below (suc d) k s =
        ap (λ (x : Ending). if_known (known l) l (if_known (known r) r x))
        (go (law_below d (2 * k) s) (law_below d (2 * k + 1) (s + stored_size t l)) (eqb (stored_size t (index (suc d) k)) (stored_size t l + stored_size t r))
        (within d (2 * k) s (stored_size t l)))
        ∙ ap (if_known (known l) l) (read r rest whole) ∙ read l (r ∷ rest) whole
      where
        l : ℕ
        l = index d (2 * k)

        r : ℕ
        r = index d (2 * k + 1)

        rest_if : Bool → Bool → List ℕ
        rest_if sum w =
            elim sum [ true ↦ elim w [ true ↦ reads_below within t d (2 * k) s | false ↦ reads_below within t d (2 * k + 1) (s + stored_size t l) ] | false ↦ [] ]

        whole_if : Bool → Bool → Ending
        whole_if sum w =
            elim sum [
              | true ↦ elim w [ true ↦ descend always within t d (2 * k) s | false ↦ descend always within t d (2 * k + 1) (s + stored_size t l) ]
              | false ↦ stopped (index (suc d) k)
            ]

        rest : List ℕ
        rest = rest_if (eqb (stored_size t (index (suc d) k)) (stored_size t l + stored_size t r)) (within d (2 * k) s (stored_size t l))

        whole : Ending
        whole = whole_if (eqb (stored_size t (index (suc d) k)) (stored_size t l + stored_size t r)) (within d (2 * k) s (stored_size t l))

        go : descend known within t d (2 * k) s ≡ pair (first_unknown known (reads_below within t d (2 * k) s)) (descend always within t d (2 * k) s)
            → descend known within t d (2 * k + 1) (s + stored_size t l)
            ≡ pair (first_unknown known (reads_below within t d (2 * k + 1) (s + stored_size t l))) (descend always within t d (2 * k + 1) (s + stored_size t l))
            → (sum w : Bool)
            → elim sum [
              | true ↦ elim w [ true ↦ descend known within t d (2 * k) s | false ↦ descend known within t d (2 * k + 1) (s + stored_size t l) ]
              | false ↦ stopped (index (suc d) k)
            ] ≡ pair (first_unknown known (rest_if sum w)) (whole_if sum w)
        go left right true true = left
        go left right true false = right
        go left right false w = refl

    pub law_from : (is : List ℕ) (s : ℕ) → from_roots known within t is s ≡ pair (first_unknown known (reads_from within t is s)) (from_roots always within t is s)
    unfolding from_roots reads_from first_unknown
    law_from [] s = refl
    law_from (i ∷ is) s =
        ap (if_known (known i) i) (go (law_from is (s + stored_size t i)) (within (depth i) (block i) s (stored_size t i)))
        ∙ read i (rest_if (within (depth i) (block i) s (stored_size t i))) (whole_if (within (depth i) (block i) s (stored_size t i)))
      where
        rest_if : Bool → List ℕ
        rest_if w = elim w [ true ↦ reads_below within t (depth i) (block i) s | false ↦ reads_from within t is (s + stored_size t i) ]

        whole_if : Bool → Ending
        whole_if w = elim w [ true ↦ descend always within t (depth i) (block i) s | false ↦ from_roots always within t is (s + stored_size t i) ]

        go : from_roots known within t is (s + stored_size t i)
            ≡ pair (first_unknown known (reads_from within t is (s + stored_size t i))) (from_roots always within t is (s + stored_size t i))
            → (w : Bool)
            → elim w [ true ↦ descend known within t (depth i) (block i) s | false ↦ from_roots known within t is (s + stored_size t i) ]
            ≡ pair (first_unknown known (rest_if w)) (whole_if w)
        go on true = law_below (depth i) (block i) s
        go on false = on

    pub law_descent : (n : ℕ) → descent known within t n ≡ pair (first_unknown known (reads within t n)) (descent always within t n)
    unfolding descent reads
    law_descent n = law_from (roots n) 0
