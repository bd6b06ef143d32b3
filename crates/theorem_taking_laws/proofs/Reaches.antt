-- Where a descent to a chunk comes to. Assumes nothing.
use Prim.Native.Nat.{ℕ, zero, suc, ◌+◌, ◌-◌, ◌*◌, ◌/◌, ◌%◌, ◌^◌, ◌≤◌, ◌<◌}
use mathlib.Core.Path.{◌≡◌, refl, sym, ap, ap₂, ◌∙◌, subst}
use mathlib.Core.Bool.{Bool, true, false, cond}
use mathlib.Core.Logic.{◌⊎◌, inl, inr}
use mathlib.Core.List.{List, [], ◌∷◌, ◌++◌, map}
use native.Mathlib.Nat.{zero-add, add-zero, add_assoc, div-one, mul-one, zero-mul, one-mul, le_trans, div-eq_of_lt}
use native.Mathlib.Omega.{arith}
use borrow.Author.Tests.{le-leb, ltb-true, ltb-false, lt-ltb, le-ltb, eq-eqb, ne_eqb}
use lib.Dec.{ltb}
use lib.Pow.{pow_pos}
use lib.ListN.{length}
use Rattle.byte_strings.specs.Lists.{run, total}
use Rattle.byte_strings.proofs.Lists.{run_suc, total_append}
use Rattle.byte_strings.proofs.Bools.{chosen}
use Rattle.tree_index.specs.Tree.{index, trailing_ones, depth, block, root_of, roots_below, roots}
use Rattle.tree_index.proofs.Index.{depth_index, block_index, index_of, index_sum, index_leaf}
use Rattle.tree_index.proofs.Filled.{block_end}
use Rattle.tree_index.proofs.Roots.{bit, no_root, one_root}
use Rattle.tree_index.proofs.Cover.{high_bits}
use Rattle.file_format.specs.Sizes.{longest_chunk}
use Rattle.file_format.specs.Stored.{stored_size}
use Rattle.lookup.specs.Descent.{Ending, stopped, reached, chunk_within, descend, from_roots, descent, always}
use Rattle.lookup.specs.Theorems.{Right}
use Rattle.packet.specs.Packet.{root_above, siblings, without, other_roots}
use Rattle.packet.specs.Inner.{ChunkOf}
use Rattle.packet.proofs.Right.{map_run}
use Rattle.byte_strings.proofs.Members.{In, total_none}
use Rattle.theorem_taking_laws.proofs.Distinct.{without_in}
use Rattle.theorem_taking_laws.proofs.Ways.{side_index, siblings_deep}
use Rattle.theorem_taking_laws.proofs.Halves.{Half, in_left_lem, in_right_lem, halves, goes_left, goes_right}
use Rattle.theorem_taking_laws.proofs.ReadsNear.{block_above}

-- what an entry adds to the start of chunk c: its length where it stands left of the leaf
unfoldable pub left_at : List ℕ → ℕ → ℕ → ℕ
left_at t c i = cond (ltb i (index 0 c)) (stored_size t i) 0

-- the start by the lengths of left siblings and left roots
unfoldable pub chunk_start : List ℕ → ℕ → ℕ → ℕ
chunk_start t n c = total (map (left_at t c) (siblings n c)) + total (map (left_at t c) (other_roots n c))

module _ (t : List ℕ) (c : ℕ) where
  abbrev size : ℕ → ℕ → ℕ
  size d k = stored_size t (index d k)

  left_counts : (i : ℕ) → i < 2 * c → left_at t c i ≡ stored_size t i
  unfolding left_at
  left_counts i h = ap (λ (b : Bool). cond b (stored_size t i) 0) (lt-ltb i (index 0 c) (omega (arith, index_leaf c)))

  right_counts : (i : ℕ) → 2 * c ≤ i → left_at t c i ≡ 0
  unfolding left_at
  right_counts i h = ap (λ (b : Bool). cond b (stored_size t i) 0) (le-ltb i (index 0 c) (omega (arith, index_leaf c)))

  -- a block that ends before chunk c stands left of its leaf, and one that begins behind it right
  pub ends_left : (d k : ℕ) → (k + 1) * 2 ^ d ≤ c → index d k < 2 * c
  ends_left d k h = omega (arith, index_sum d k, block_end d k, pow_pos d)

  pub begins_right : (d k : ℕ) → c < k * 2 ^ d → 2 * c ≤ index d k
  begins_right d k h = omega (arith, index_sum d k, pow_pos d)

  -- the lengths beside the way in the first d depths
  abbrev asides : ℕ → ℕ
  asides d = total (run (λ e. left_at t c (side_index c e)) 0 d)

  asides_suc : (d : ℕ) → asides (suc d) ≡ asides d + left_at t c (side_index c d)
  unfolding total
  asides_suc d =
      let f : ℕ → ℕ = λ e. left_at t c (side_index c e) in
      ap total (run_suc f 0 d) ∙ total_append (run f 0 d) (f (0 + d) ∷ [])
      ∙ ap (λ (x : ℕ). total (run f 0 d) + x) (add-zero (f (0 + d)) ∙ ap f (zero-add d))

  -- every parent of the way below depth d is the sum of its children, and the leaf is no longer than it may be
  abbrev pub WayRight : ℕ → Type 0
  WayRight d = ((e : ℕ) → e < d → Right t (suc e) (c / 2 ^ suc e)) × (stored_size t (index 0 c) ≤ longest_chunk)

  below_reaches : (d k s : ℕ) → k ≡ c / 2 ^ d → WayRight d → descend always (chunk_within c) t d k s ≡ reached c (s + asides d)
  unfolding descend run total
  below_reaches zero k s e w =
      let q : k ≡ c = e ∙ div-one c in
      ap (λ (b : Bool). chosen b (reached k s) (stopped (index 0 k)))
      (le-leb (stored_size t (index 0 k)) longest_chunk (subst (λ (x : ℕ). stored_size t (index 0 x) ≤ longest_chunk) (sym q) w.1))
      ∙ ap₂ reached q (sym (add-zero s))
  below_reaches (suc d) k s e w =
      ap (λ (b : Bool). chosen b (child (chunk_within c d (2 * k) s (size d (2 * k)))) (stopped (index (suc d) k)))
      (eq-eqb (size (suc d) k) (size d (2 * k) + size d (2 * k + 1)) (subst (λ (x : ℕ). Right t (suc d) x) (sym e) (w.0 d (omega arith))))
      ∙ pick (below_reaches d) (halves c d k e)
    where
      child : Bool → Ending
      child y = chosen y (descend always (chunk_within c) t d (2 * k) s) (descend always (chunk_within c) t d (2 * k + 1) (s + size d (2 * k)))

      less : WayRight d
      less = (λ x l. w.0 x (omega arith), w.1)

      pick : ((k s : ℕ) → k ≡ c / 2 ^ d → WayRight d → descend always (chunk_within c) t d k s ≡ reached c (s + asides d)) → Half c d k
          → child (chunk_within c d (2 * k) s (size d (2 * k))) ≡ reached c (s + asides (suc d))
      pick rec (in_left_lem q l r m) =
          let far : left_at t c (side_index c d) ≡ 0 =
          right_counts (side_index c d) (subst (λ (x : ℕ). 2 * c ≤ x) r (begins_right d (2 * k + 1) m)) in
          let sum : s + asides d ≡ s + asides (suc d) = omega (arith, asides_suc d) in
          ap child (goes_left c d (2 * k) s (size d (2 * k)) m) ∙ rec (2 * k) s (sym q) less ∙ ap (reached c) sum
      pick rec (in_right_lem q l r m) =
          let near : left_at t c (side_index c d) ≡ size d (2 * k) =
          left_counts (side_index c d) (subst (λ (x : ℕ). x < 2 * c) l (ends_left d (2 * k) m)) ∙ ap (stored_size t) (sym l) in
          let sum : s + size d (2 * k) + asides d ≡ s + asides (suc d) = omega (arith, asides_suc d) in
          ap child (goes_right c d (2 * k) s (size d (2 * k)) m) ∙ rec (2 * k + 1) (s + size d (2 * k)) (sym q) less ∙ ap (reached c) sum

-- ---- the roots before it

-- the blocks of the roots of fewer than 2^d chunks begin where the larger roots end, or later
pub roots_begin : (n d i : ℕ) → In i (roots_below d n) → n / 2 ^ d * 2 ^ d ≤ block i * 2 ^ depth i
unfolding roots_below In
roots_begin n zero i h = absurd h
roots_begin n (suc d) i h = pick (roots_begin n d i) (bit (n / 2 ^ d))
  where
    lower : (n / 2 ^ d % 2 ≡ 0) ⊎ (n / 2 ^ d % 2 ≡ 1) → n / 2 ^ suc d * 2 ^ suc d ≤ n / 2 ^ d * 2 ^ d
    lower b = omega (arith, high_bits d n)

    first : (k : ℕ) → k + 1 ≡ n / 2 ^ d → n / 2 ^ d % 2 ≡ 1 → index d k ≡ i → n / 2 ^ suc d * 2 ^ suc d ≤ block i * 2 ^ depth i
    first k e o q =
        let begins : k * 2 ^ d ≡ n / 2 ^ suc d * 2 ^ suc d =
        omega (arith, high_bits d n, ap (λ (x : ℕ). x * 2 ^ d) o, one-mul (2 ^ d), ap (λ (x : ℕ). x * 2 ^ d) e, block_end d k) in
        let here : block i * 2 ^ depth i ≡ k * 2 ^ d =
        ap (λ (x : ℕ). block x * 2 ^ depth x) (sym q) ∙ ap₂ (λ (x y : ℕ). x * 2 ^ y) (block_index d k) (depth_index d k) in
        omega arith

    pick : (In i (roots_below d n) → n / 2 ^ d * 2 ^ d ≤ block i * 2 ^ depth i) → (n / 2 ^ d % 2 ≡ 0) ⊎ (n / 2 ^ d % 2 ≡ 1)
        → n / 2 ^ suc d * 2 ^ suc d ≤ block i * 2 ^ depth i
    pick rec (inl e) = le_trans (lower (inl e)) (rec (subst (λ (r : List ℕ). In i (r ++ roots_below d n)) (no_root d n e) h))
    pick rec (inr o) = go (subst (λ (r : List ℕ). In i (r ++ roots_below d n)) (one_root d n o) h)
      where
        go : (index d (n / 2 ^ d - 1) ≡ i) ⊎ In i (roots_below d n) → n / 2 ^ suc d * 2 ^ suc d ≤ block i * 2 ^ depth i
        go (inl q) = first (n / 2 ^ d - 1) (omega arith) o q
        go (inr m) = le_trans (lower (inr o)) (rec m)

depth_none : depth 0 ≡ 0
unfolding depth trailing_ones
depth_none = refl

module _ (t : List ℕ) (c : ℕ) where
  abbrev ending : ℕ → ℕ
  ending i = (block i + 1) * 2 ^ depth i

  -- the root above chunk c ends behind it, where there is one
  above_ends : (is : List ℕ) → (root_above is c ≡ 0) ⊎ (c < ending (root_above is c))
  unfolding root_above
  above_ends [] = inl refl
  above_ends (i ∷ is) = pick (ltb c (ending i)) refl (above_ends is)
    where
      pick : (b : Bool) → ltb c (ending i) ≡ b → (root_above is c ≡ 0) ⊎ (c < ending (root_above is c))
          → (chosen b i (root_above is c) ≡ 0) ⊎ (c < ending (chosen b i (root_above is c)))
      pick true e r = inr (ltb-true c (ending i) e)
      pick false e r = r

  abbrev Reaches : List ℕ → ℕ → Type 0
  Reaches is s =
      from_roots always (chunk_within c) t is s
      ≡ descend always (chunk_within c) t (depth (root_above is c)) (block (root_above is c)) (s + total (map (left_at t c) (without (root_above is c) is)))

  cons_reaches : (x : ℕ) (is : List ℕ) (s : ℕ) → (c < ending x → (i : ℕ) → In i is → left_at t c i ≡ 0)
      → (ending x ≤ c → (left_at t c x ≡ stored_size t x) × (x ≡ root_above is c → ⊥) × Reaches is (s + stored_size t x)) → Reaches (x ∷ is) s
  unfolding from_roots root_above without chunk_within total
  cons_reaches x is s before behind = pick (ltb c (ending x)) refl
    where
      left : ℕ → List ℕ → ℕ
      left r xs = total (map (left_at t c) (without r xs))

      pick : (b : Bool) → ltb c (ending x) ≡ b
          → chosen b (descend always (chunk_within c) t (depth x) (block x) s) (from_roots always (chunk_within c) t is (s + stored_size t x))
          ≡ descend always (chunk_within c) t (depth (chosen b x (root_above is c))) (block (chosen b x (root_above is c))) (s + left (chosen b x (root_above is c)) (x ∷ is))
      pick true e =
          let none : left x (x ∷ is) ≡ 0 =
          ap (λ (b : Bool). total (map (left_at t c) (chosen b (without x is) (x ∷ without x is)))) (eq-eqb x x refl)
          ∙ total_none (left_at t c) (without x is) (λ i m. before (ltb-true c (ending x) e) i (without_in i x is m).0) in
          ap (descend always (chunk_within c) t (depth x) (block x)) (sym (ap (λ (z : ℕ). s + z) none ∙ add-zero s))
      pick false e =
          let h = behind (ltb-false c (ending x) e) in
          let r : ℕ = root_above is c in
          let more : left r (x ∷ is) ≡ stored_size t x + left r is =
          ap (λ (b : Bool). total (map (left_at t c) (chosen b (without r is) (x ∷ without r is)))) (ne_eqb x r h.1)
          ∙ ap (λ (z : ℕ). z + left r is) h.0 in
          h.2 ∙ ap (descend always (chunk_within c) t (depth r) (block r)) (add_assoc s (stored_size t x) (left r is) ∙ ap (λ (z : ℕ). s + z) (sym more))

  from_reaches : (n d s : ℕ) → n / 2 ^ d * 2 ^ d ≤ c → c < n → Reaches (roots_below d n) s
  unfolding roots_below
  from_reaches n zero s h l = absurd (omega (arith, subst (λ (x : ℕ). x ≤ c) (mul-one (n / 1) ∙ div-one n) h))
  from_reaches n (suc d) s h l = pick (from_reaches n d) (bit (n / 2 ^ d))
    where
      odd : (k : ℕ) → k + 1 ≡ n / 2 ^ d → ((s : ℕ) → n / 2 ^ d * 2 ^ d ≤ c → c < n → Reaches (roots_below d n) s) → Reaches (index d k ∷ roots_below d n) s
      odd k e rec =
          let end : ending (index d k) ≡ (k + 1) * 2 ^ d = ap₂ (λ (x y : ℕ). (x + 1) * 2 ^ y) (block_index d k) (depth_index d k) in
          let same : (k + 1) * 2 ^ d ≡ n / 2 ^ d * 2 ^ d = ap (λ (x : ℕ). x * 2 ^ d) e in
          cons_reaches (index d k) (roots_below d n) s
          (λ g i m. right_counts t c i (subst (λ (x : ℕ). 2 * c ≤ x) (index_of i)
          (begins_right t c (depth i) (block i) (omega (arith, roots_begin n d i m)))))
          (λ g. (
            left_counts t c (index d k) (ends_left t c d k (omega arith)),
            (λ q. apart k e q (omega arith) (above_ends (roots_below d n))),
            rec (s + stored_size t (index d k)) (omega arith) l,
          ))
        where
          apart : (k : ℕ) → k + 1 ≡ n / 2 ^ d → index d k ≡ root_above (roots_below d n) c → n / 2 ^ d * 2 ^ d ≤ c
              → (root_above (roots_below d n) c ≡ 0) ⊎ (c < ending (root_above (roots_below d n) c)) → ⊥
          apart k e q g (inl z) =
              let low : d ≡ 0 = sym (depth_index d k) ∙ ap depth (q ∙ z) ∙ depth_none in
              omega (arith, subst (λ (x : ℕ). n / 2 ^ x * 2 ^ x ≤ c) low g, mul-one (n / 1), div-one n)
          apart k e q g (inr z) =
              let end : ending (index d k) ≡ (k + 1) * 2 ^ d = ap₂ (λ (x y : ℕ). (x + 1) * 2 ^ y) (block_index d k) (depth_index d k) in
              let same : (k + 1) * 2 ^ d ≡ n / 2 ^ d * 2 ^ d = ap (λ (x : ℕ). x * 2 ^ d) e in
              let here : c < ending (index d k) = subst (λ (x : ℕ). c < ending x) (sym q) z in
              omega arith

      pick : ((s : ℕ) → n / 2 ^ d * 2 ^ d ≤ c → c < n → Reaches (roots_below d n) s) → (n / 2 ^ d % 2 ≡ 0) ⊎ (n / 2 ^ d % 2 ≡ 1)
          → Reaches (root_of d n ++ roots_below d n) s
      pick rec (inl e) =
          let high : n / 2 ^ suc d * 2 ^ suc d ≡ n / 2 ^ d * 2 ^ d = omega (arith, high_bits d n, ap (λ (x : ℕ). x * 2 ^ d) e, zero-mul (2 ^ d)) in
          subst (λ (r : List ℕ). Reaches (r ++ roots_below d n) s) (sym (no_root d n e)) (rec s (subst (λ (x : ℕ). x ≤ c) high h) l)
      pick rec (inr o) =
          subst (λ (r : List ℕ). Reaches (r ++ roots_below d n) s) (sym (one_root d n o)) (odd (n / 2 ^ d - 1) (omega arith) rec)

  -- the descent to a chunk comes to its leaf, where no node of the way stops it
  pub reaches : (n : ℕ) → ChunkOf n c → WayRight t c (length (siblings n c)) → descent always (chunk_within c) t n ≡ reached c (chunk_start t n c)
  unfolding descent roots chunk_start other_roots siblings
  reaches n h w =
      let r : ℕ = root_above (roots n) c in
      let first : n / 2 ^ 21 * 2 ^ 21 ≡ 0 = ap (λ (x : ℕ). x * 2 ^ 21) (div-eq_of_lt (omega (arith, h.count))) ∙ zero-mul (2 ^ 21) in
      let left : ℕ = total (map (left_at t c) (other_roots n c)) in
      let sides : total (map (left_at t c) (siblings n c)) ≡ total (run (λ e. left_at t c (side_index c e)) 0 (depth r)) =
      ap total (map_run (left_at t c) (λ e. side_index c e) 0 (depth r)) in
      let sum : 0 + left + total (run (λ e. left_at t c (side_index c e)) 0 (depth r)) ≡ total (map (left_at t c) (siblings n c)) + left = omega arith in
      from_reaches n 21 0 (subst (λ (x : ℕ). x ≤ c) (sym first) (omega arith)) h.below
      ∙ below_reaches t c (depth r) (block r) (0 + left) (block_above t c n h) (subst (λ (d : ℕ). WayRight t c d) (siblings_deep n c) w)
      ∙ ap (reached c) sum
