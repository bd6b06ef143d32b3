-- Descents in two tree files that agree on the known entries end alike; and of a chunk that is reached every entry of the way and beside it is known.
-- Assumes nothing.
use Prim.Native.Nat.{ℕ, zero, suc, ◌+◌, ◌*◌, ◌/◌, ◌^◌, ◌<◌}
use mathlib.Core.Path.{◌≡◌, refl, sym, ap, ap₂, ◌∙◌, subst}
use mathlib.Core.Bool.{Bool, true, false}
use mathlib.Core.List.{List, [], ◌∷◌}
use native.Mathlib.Nat.{div-one}
use native.Mathlib.Omega.{arith}
use borrow.Author.Tests.{ltb-true, ltb-false}
use lib.Dec.{leb, ltb, eqb}
use lib.ListN.{length, get_or}
use Rattle.byte_strings.proofs.Bools.{chosen}
use Rattle.tree_index.specs.Tree.{index, depth, block, filled, roots}
use Rattle.tree_index.proofs.Index.{index_of}
use Rattle.tree_index.proofs.Filled.{filled_left, filled_right}
use Rattle.tree_index.proofs.Roots.{root_filled}
use Rattle.file_format.specs.Sizes.{longest_chunk}
use Rattle.file_format.specs.Stored.{stored_size}
use Rattle.lookup.specs.Descent.{Ending, stopped, reached, if_known, chunk_within, descend, from_roots, descent}
use Rattle.packet.specs.Packet.{root_above, siblings}
use Rattle.packet.specs.Inner.{ChunkOf}
use Rattle.theorem_taking_laws.proofs.Ways.{way_index, side_index, siblings_deep}
use Rattle.theorem_taking_laws.proofs.Halves.{Half, in_left_lem, in_right_lem, halves}
use Rattle.theorem_taking_laws.proofs.ReadsNear.{block_above}

-- ---- two tree files

module _ (known : ℕ → Bool) where
  -- what follows the reading of an entry matters only where it is known
  behind : (i : ℕ) (x y : Ending) → (known i ≡ true → x ≡ y) → if_known (known i) i x ≡ if_known (known i) i y
  behind i x y h = go (known i) h
    where
      go : (b : Bool) → (b ≡ true → x ≡ y) → if_known b i x ≡ if_known b i y
      go true g = g refl
      go false g = refl

  module _ (within : ℕ → ℕ → ℕ → ℕ → Bool) (t u : List ℕ) (n : ℕ) (same : (i : ℕ) → filled n i ≡ true → known i ≡ true → stored_size t i ≡ stored_size u i) where
    -- what follows the reading of both children, by the lengths and by where the turns lead
    abbrev turn : ℕ → ℕ → ℕ → ℕ → ℕ → ℕ → Ending → (ℕ → Ending) → Ending
    turn d k s a b c x y = chosen (eqb a (b + c)) (chosen (within d (2 * k) s b) x (y (s + b))) (stopped (index (suc d) k))

    same_below : (d k s : ℕ) → filled n (index d k) ≡ true → known (index d k) ≡ true → descend known within t d k s ≡ descend known within u d k s
    unfolding descend
    same_below zero k s f h = ap (λ (z : ℕ). chosen (leb z longest_chunk) (reached k s) (stopped (index 0 k))) (same (index 0 k) f h)
    same_below (suc d) k s f h =
        behind l (if_known (known r) r (on t)) (if_known (known r) r (on u))
        (λ p. behind r (on t) (on u)
        (λ q. turned (same_below d (2 * k) s (filled_left n d k f) p) (λ z. same_below d (2 * k + 1) z (filled_right n d k f) q)
        ∙ ap (λ (a : ℕ). turn d k s a (stored_size t l) (stored_size t r) (left u) (right u)) (same (index (suc d) k) f h)
        ∙ ap₂ (λ (b c : ℕ). turn d k s (stored_size u (index (suc d) k)) b c (left u) (right u)) (same l (filled_left n d k f) p) (same r (filled_right n d k f) q)))
      where
        l : ℕ
        l = index d (2 * k)

        r : ℕ
        r = index d (2 * k + 1)

        left : List ℕ → Ending
        left v = descend known within v d (2 * k) s

        right : List ℕ → ℕ → Ending
        right v = descend known within v d (2 * k + 1)

        on : List ℕ → Ending
        on v = turn d k s (stored_size v (index (suc d) k)) (stored_size v l) (stored_size v r) (left v) (right v)

        turned : left t ≡ left u → ((z : ℕ) → right t z ≡ right u z)
            → on t ≡ turn d k s (stored_size t (index (suc d) k)) (stored_size t l) (stored_size t r) (left u) (right u)
        turned e g =
            λ i. chosen (eqb (stored_size t (index (suc d) k)) (stored_size t l + stored_size t r))
            (chosen (within d (2 * k) s (stored_size t l)) (e i) (g (s + stored_size t l) i)) (stopped (index (suc d) k))

    same_from : (is : List ℕ) (s : ℕ) → ((j : ℕ) → j < length is → filled n (get_or is j 0) ≡ true)
        → from_roots known within t is s ≡ from_roots known within u is s
    unfolding from_roots
    same_from [] s h = refl
    same_from (i ∷ is) s h =
        let f : filled n i ≡ true = h 0 (omega arith) in
        behind i (picked t (stored_size t i)) (picked u (stored_size u i))
        (λ p.
        let here = same_below (depth i) (block i) s (ap (filled n) (index_of i) ∙ f) (ap known (index_of i) ∙ p) in
        let on = same_from is (s + stored_size t i) (λ j l. h (suc j) (omega arith)) in
        (λ j. chosen (within (depth i) (block i) s (stored_size t i)) (here j) (on j)) ∙ ap (picked u) (same i f p))
      where
        picked : List ℕ → ℕ → Ending
        picked v z = chosen (within (depth i) (block i) s z) (descend known within v (depth i) (block i) s) (from_roots known within v is (s + z))

    -- tree files that agree on the known entries of n chunks have the same endings
    pub same_descent : descent known within t n ≡ descent known within u n
    unfolding descent
    same_descent = same_from (roots n) 0 (root_filled n)

-- ---- a chunk that is reached

-- what was read before it was known
read_known : (b : Bool) (i : ℕ) (e : Ending) (a z : ℕ) → if_known b i e ≡ reached a z → (b ≡ true) × (e ≡ reached a z)
read_known true i e a z q = (refl, q)
read_known false i e a z q = let x : ◌≡◌ {A = ℕ} 0 1 = cc in absurd (omega arith)

not_stopped : (b : Bool) (e : Ending) (i a z : ℕ) → chosen b e (stopped i) ≡ reached a z → e ≡ reached a z
not_stopped true e i a z q = q
not_stopped false e i a z q = let x : ◌≡◌ {A = ℕ} 0 1 = cc in absurd (omega arith)

module _ (known : ℕ → Bool) (t : List ℕ) (c : ℕ) where
  abbrev Around : ℕ → Type 0
  Around d = (e : ℕ) → e < d → (known (way_index c e) ≡ true) × (known (side_index c e) ≡ true)

  abbrev Below : ℕ → Type 0
  Below d = (k s a z : ℕ) → k ≡ c / 2 ^ d → descend known (chunk_within c) t d k s ≡ reached a z → Around d

  below_known : (d : ℕ) → Below d
  unfolding descend chunk_within
  below_known zero k s a z h q = λ e l. absurd (omega arith)
  below_known (suc d) k s a z h q =
      let b = read_known (known (index d (2 * k))) (index d (2 * k)) _ a z q in
      let g = read_known (known (index d (2 * k + 1))) (index d (2 * k + 1)) _ a z b.1 in
      pick (below_known d) (halves c d k h) b.0 g.0
      (not_stopped (eqb (stored_size t (index (suc d) k)) (size + stored_size t (index d (2 * k + 1)))) _ (index (suc d) k) a z g.1)
    where
      size : ℕ
      size = stored_size t (index d (2 * k))

      more : Around d → known (way_index c d) ≡ true → known (side_index c d) ≡ true → Around (suc d)
      more below x y e l = go (ltb e d) refl
        where
          go : (b : Bool) → ltb e d ≡ b → (known (way_index c e) ≡ true) × (known (side_index c e) ≡ true)
          go true m = below e (ltb-true e d m)
          go false m =
              let same : d ≡ e = omega (arith, ltb-false e d m) in
              (subst (λ (j : ℕ). known (way_index c j) ≡ true) same x, subst (λ (j : ℕ). known (side_index c j) ≡ true) same y)

      next : Below d → (w : Bool) → (w ≡ true → 2 * k ≡ c / 2 ^ d) → (w ≡ false → 2 * k + 1 ≡ c / 2 ^ d)
          → chosen w (descend known (chunk_within c) t d (2 * k) s) (descend known (chunk_within c) t d (2 * k + 1) (s + size)) ≡ reached a z → Around d
      next rec true f g r = rec (2 * k) s a z (f refl) r
      next rec false f g r = rec (2 * k + 1) (s + size) a z (g refl) r

      pick : Below d → Half c d k → known (index d (2 * k)) ≡ true → known (index d (2 * k + 1)) ≡ true
          → chosen (ltb c ((2 * k + 1) * 2 ^ d)) (descend known (chunk_within c) t d (2 * k) s) (descend known (chunk_within c) t d (2 * k + 1) (s + size))
          ≡ reached a z → Around (suc d)
      pick rec (in_left_lem p l r w) x y o =
          more (next rec (ltb c ((2 * k + 1) * 2 ^ d)) (λ m. sym p) (λ m. absurd (omega (arith, ltb-false c ((2 * k + 1) * 2 ^ d) m))) o)
          (ap known (sym l) ∙ x) (ap known (sym r) ∙ y)
      pick rec (in_right_lem p l r w) x y o =
          more (next rec (ltb c ((2 * k + 1) * 2 ^ d)) (λ m. absurd (omega (arith, ltb-true c ((2 * k + 1) * 2 ^ d) m))) (λ m. sym p) o)
          (ap known (sym r) ∙ y) (ap known (sym l) ∙ x)

  -- it is reached from the root above it, which was read
  from_known : (is : List ℕ) (s a z : ℕ) → from_roots known (chunk_within c) t is s ≡ reached a z
      → (x : ℕ) × (descend known (chunk_within c) t (depth (root_above is c)) (block (root_above is c)) x ≡ reached a z) × (known (root_above is c) ≡ true)
  unfolding from_roots root_above chunk_within
  from_known [] s a z q = let x : ◌≡◌ {A = ℕ} 0 1 = cc in absurd (omega arith)
  from_known (i ∷ is) s a z q =
      let b = read_known (known i) i _ a z q in pick (from_known is (s + stored_size t i) a z) (ltb c ((block i + 1) * 2 ^ depth i)) b.0 b.1
    where
      pick_root : Bool → ℕ
      pick_root w = elim w [ true ↦ i | false ↦ root_above is c ]

      pick : (from_roots known (chunk_within c) t is (s + stored_size t i) ≡ reached a z
          → (x : ℕ) × (descend known (chunk_within c) t (depth (root_above is c)) (block (root_above is c)) x ≡ reached a z) × (known (root_above is c) ≡ true))
          → (w : Bool) → known i ≡ true
          → chosen w (descend known (chunk_within c) t (depth i) (block i) s) (from_roots known (chunk_within c) t is (s + stored_size t i)) ≡ reached a z
          → (x : ℕ) × (descend known (chunk_within c) t (depth (pick_root w)) (block (pick_root w)) x ≡ reached a z) × (known (pick_root w) ≡ true)
      pick rec true k r = (s, r, k)
      pick rec false k r = rec r

  module _ (n : ℕ) (h : ChunkOf n c) (a z : ℕ) (q : descent known (chunk_within c) t n ≡ reached a z) where
    -- the siblings on its way
    pub sides_known : (e : ℕ) → e < length (siblings n c) → known (side_index c e) ≡ true
    unfolding descent
    sides_known e l =
        let r = from_known (roots n) 0 a z q in
        (below_known (depth (root_above (roots n) c)) (block (root_above (roots n) c)) r.0 a z (block_above t c n h) r.1 e (omega (arith, siblings_deep n c))).1

    -- its leaf
    pub leaf_known : known (index 0 c) ≡ true
    unfolding descent
    leaf_known =
        let r = from_known (roots n) 0 a z q in
        go (depth (root_above (roots n) c)) refl
        (below_known (depth (root_above (roots n) c)) (block (root_above (roots n) c)) r.0 a z (block_above t c n h) r.1) r.2
      where
        top : ℕ
        top = root_above (roots n) c

        go : (d : ℕ) → depth top ≡ d → Around (depth top) → known top ≡ true → known (index 0 c) ≡ true
        go zero e x k =
            ap known (ap₂ index (sym e) (sym (div-one c) ∙ ap (λ (y : ℕ). c / 2 ^ y) (sym e) ∙ sym (block_above t c n h)) ∙ index_of top) ∙ k
        go (suc d) e x k = ap (λ (y : ℕ). known (index 0 y)) (sym (div-one c)) ∙ (x 0 (omega arith)).0
