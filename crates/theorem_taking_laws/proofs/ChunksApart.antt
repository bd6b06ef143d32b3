-- The bytes of a chunk lie below the sum of the roots' lengths, and those of two chunks apart. Assumes nothing.
use Prim.Native.Nat.{ℕ, zero, suc, ◌+◌, ◌-◌, ◌*◌, ◌/◌, ◌%◌, ◌^◌, ◌≤◌, ◌<◌}
use mathlib.Core.Path.{◌≡◌, refl, sym, ap, ap₂, ◌∙◌, subst}
use mathlib.Core.Bool.{Bool, true, false}
use mathlib.Core.Logic.{◌⊎◌, inl, inr}
use mathlib.Core.List.{List, [], ◌∷◌, ◌++◌, map}
use native.Mathlib.Nat.{mul-one, zero-mul, one-mul, div-eq_of_lt}
use native.Mathlib.Omega.{arith}
use borrow.Author.Tests.{ltb-true, ltb-false, eqb-true}
use lib.Dec.{leb, ltb, eqb}
use Rattle.byte_strings.specs.Lists.{total}
use Rattle.byte_strings.proofs.Bools.{chosen}
use Rattle.tree_index.specs.Tree.{index, depth, block, roots_below, roots}
use Rattle.tree_index.proofs.Index.{depth_index, block_index, index_of}
use Rattle.tree_index.proofs.Filled.{block_end}
use Rattle.tree_index.proofs.Roots.{bit, no_root, one_root}
use Rattle.tree_index.proofs.Cover.{high_bits}
use Rattle.file_format.specs.Sizes.{longest_chunk}
use Rattle.file_format.specs.Stored.{stored_size, stored_root_sizes}
use Rattle.lookup.specs.Descent.{Ending, stopped, reached, chunk_within, descend, from_roots, descent, always}
use Rattle.lookup.proofs.Descents.{left_first, right_end}
use Rattle.packet.specs.Inner.{ChunkOf}
use Rattle.theorem_taking_laws.proofs.Halves.{within_is}

pub never_stopped : {A : Type 0} (i k s : ℕ) → stopped i ≡ reached k s → A
never_stopped i k s e = let z : ◌≡◌ {A = ℕ} 0 1 = cc in absurd (omega arith)

module _ (t : List ℕ) where
  abbrev leaf_size_lem : ℕ → ℕ
  leaf_size_lem a = stored_size t (index 0 a)

  -- they lie within those of the block from which the leaf is reached
  pub record Inside (from a z to : ℕ) : Type 0 where
    pub low : from ≤ z
    pub high : z + stored_size t (index 0 a) ≤ to

  below_inside : (c d k s a z : ℕ) → descend always (chunk_within c) t d k s ≡ reached a z → Inside s a z (s + stored_size t (index d k))
  unfolding descend
  below_inside c zero k s a z e = pick (leb (stored_size t (index 0 k)) longest_chunk) e
    where
      pick : (b : Bool) → chosen b (reached k s) (stopped (index 0 k)) ≡ reached a z → Inside s a z (s + stored_size t (index 0 k))
      pick true q =
          let x : a ≡ k = cc in
          let y : z ≡ s = cc in
          record { low = omega arith; high = omega (arith, ap (λ (i : ℕ). stored_size t (index 0 i)) x) }
      pick false q = never_stopped (index 0 k) a z q
  below_inside c (suc d) k s a z e =
      pick (below_inside c d) (eqb (stored_size t (index (suc d) k)) (b + stored_size t (index d (2 * k + 1)))) refl (chunk_within c d (2 * k) s b) e
    where
      b : ℕ
      b = stored_size t (index d (2 * k))

      pick : ((k s a z : ℕ) → descend always (chunk_within c) t d k s ≡ reached a z → Inside s a z (s + stored_size t (index d k))) → (x : Bool)
          → eqb (stored_size t (index (suc d) k)) (b + stored_size t (index d (2 * k + 1))) ≡ x → (y : Bool)
          → chosen x (chosen y (descend always (chunk_within c) t d (2 * k) s) (descend always (chunk_within c) t d (2 * k + 1) (s + b))) (stopped (index (suc d) k)) ≡ reached a z
          → Inside s a z (s + stored_size t (index (suc d) k))
      pick rec true w true q =
          let r = rec (2 * k) s a z q in
          record { low = r.low; high = omega (arith, r.high, eqb-true (stored_size t (index (suc d) k)) (b + stored_size t (index d (2 * k + 1))) w) }
      pick rec true w false q =
          let r = rec (2 * k + 1) (s + b) a z q in
          record {
            low = omega (arith, r.low);
            high = omega (arith, r.high, eqb-true (stored_size t (index (suc d) k)) (b + stored_size t (index d (2 * k + 1))) w);
          }
      pick rec false w y q = never_stopped (index (suc d) k) a z q

  from_inside : (c : ℕ) (is : List ℕ) (s a z : ℕ) → from_roots always (chunk_within c) t is s ≡ reached a z → Inside s a z (s + total (map (stored_size t) is))
  unfolding from_roots total
  from_inside c [] s a z e = never_stopped 0 a z e
  from_inside c (i ∷ is) s a z e = pick (from_inside c is) (chunk_within c (depth i) (block i) s (stored_size t i)) e
    where
      pick : ((s a z : ℕ) → from_roots always (chunk_within c) t is s ≡ reached a z → Inside s a z (s + total (map (stored_size t) is))) → (b : Bool)
          → chosen b (descend always (chunk_within c) t (depth i) (block i) s) (from_roots always (chunk_within c) t is (s + stored_size t i)) ≡ reached a z
          → Inside s a z (s + (stored_size t i + total (map (stored_size t) is)))
      pick rec true q =
          let r = below_inside c (depth i) (block i) s a z q in
          record { low = r.low; high = omega (arith, r.high, ap (stored_size t) (index_of i)) }
      pick rec false q =
          let r = rec (s + stored_size t i) a z q in record { low = omega (arith, r.low); high = omega (arith, r.high) }

  -- a chunk's bytes lie below the sum of the roots' lengths
  pub descent_inside : (c n a z : ℕ) → descent always (chunk_within c) t n ≡ reached a z → z + stored_size t (index 0 a) ≤ total (stored_root_sizes t n)
  unfolding descent stored_root_sizes
  descent_inside c n a z e = let r = from_inside c (roots n) 0 a z e in omega (arith, r.high)

  module _ (i j : ℕ) (less : i < j) where
    below_apart : (d k s a z b y : ℕ) → k * 2 ^ d ≤ i → j < (k + 1) * 2 ^ d → descend always (chunk_within i) t d k s ≡ reached a z
        → descend always (chunk_within j) t d k s ≡ reached b y → z + stored_size t (index 0 a) ≤ y
    unfolding descend
    below_apart zero k s a z b y l h e f = absurd (omega (arith, mul-one k, mul-one (k + 1)))
    below_apart (suc d) k s a z b y l h e f =
        pick (below_apart d) (eqb (stored_size t (index (suc d) k)) (m + stored_size t (index d (2 * k + 1)))) e f
      where
        m : ℕ
        m = stored_size t (index d (2 * k))

        child : ℕ → Bool → Ending
        child c x = chosen x (descend always (chunk_within c) t d (2 * k) s) (descend always (chunk_within c) t d (2 * k + 1) (s + m))

        split : ((k s a z b y : ℕ) → k * 2 ^ d ≤ i → j < (k + 1) * 2 ^ d → descend always (chunk_within i) t d k s ≡ reached a z
            → descend always (chunk_within j) t d k s ≡ reached b y → z + stored_size t (index 0 a) ≤ y) → (x w : Bool)
            → ltb i ((2 * k + 1) * 2 ^ d) ≡ x → ltb j ((2 * k + 1) * 2 ^ d) ≡ w → child i x ≡ reached a z → child j w ≡ reached b y
            → z + stored_size t (index 0 a) ≤ y
        split rec true true p q u v =
            rec (2 * k) s a z b y (subst (λ (x : ℕ). x ≤ i) (sym (left_first d k)) l) (ltb-true j ((2 * k + 1) * 2 ^ d) q) u v
        split rec true false p q u v =
            omega (arith, (below_inside i d (2 * k) s a z u).high, (below_inside j d (2 * k + 1) (s + m) b y v).low)
        split rec false true p q u v =
            absurd (omega (arith, ltb-false i ((2 * k + 1) * 2 ^ d) p, ltb-true j ((2 * k + 1) * 2 ^ d) q))
        split rec false false p q u v =
            rec (2 * k + 1) (s + m) a z b y (ltb-false i ((2 * k + 1) * 2 ^ d) p) (subst (λ (x : ℕ). j < x) (sym (right_end d k)) h) u v

        pick : ((k s a z b y : ℕ) → k * 2 ^ d ≤ i → j < (k + 1) * 2 ^ d → descend always (chunk_within i) t d k s ≡ reached a z
            → descend always (chunk_within j) t d k s ≡ reached b y → z + stored_size t (index 0 a) ≤ y) → (g : Bool)
            → chosen g (child i (chunk_within i d (2 * k) s m)) (stopped (index (suc d) k)) ≡ reached a z
            → chosen g (child j (chunk_within j d (2 * k) s m)) (stopped (index (suc d) k)) ≡ reached b y → z + stored_size t (index 0 a) ≤ y
        pick rec true u v =
            split rec (chunk_within i d (2 * k) s m) (chunk_within j d (2 * k) s m) (sym (within_is i d (2 * k) s m)) (sym (within_is j d (2 * k) s m)) u v
        pick rec false u v = never_stopped (index (suc d) k) a z u

    from_apart : (n d s a z b y : ℕ) → n / 2 ^ d * 2 ^ d ≤ i → j < n → from_roots always (chunk_within i) t (roots_below d n) s ≡ reached a z
        → from_roots always (chunk_within j) t (roots_below d n) s ≡ reached b y → z + stored_size t (index 0 a) ≤ y
    unfolding roots_below from_roots
    from_apart n zero s a z b y l h e f = never_stopped 0 a z e
    from_apart n (suc d) s a z b y l h e f = pick (from_apart n d) (bit (n / 2 ^ d))
      where
        after : ℕ → ℕ → Bool → Ending
        after c k x = chosen x (descend always (chunk_within c) t d k s) (from_roots always (chunk_within c) t (roots_below d n) (s + stored_size t (index d k)))

        one : (c k : ℕ) → from_roots always (chunk_within c) t (index d k ∷ roots_below d n) s ≡ after c k (ltb c ((k + 1) * 2 ^ d))
        one c k =
            ap₂ (λ (v w : ℕ). chosen (chunk_within c v w s (stored_size t (index d k))) (descend always (chunk_within c) t v w s)
            (from_roots always (chunk_within c) t (roots_below d n) (s + stored_size t (index d k)))) (depth_index d k) (block_index d k)
            ∙ ap (after c k) (within_is c d k s (stored_size t (index d k)))

        split : ((s a z b y : ℕ) → n / 2 ^ d * 2 ^ d ≤ i → j < n → from_roots always (chunk_within i) t (roots_below d n) s ≡ reached a z
            → from_roots always (chunk_within j) t (roots_below d n) s ≡ reached b y → z + stored_size t (index 0 a) ≤ y) → (k : ℕ) → k + 1 ≡ n / 2 ^ d
            → k * 2 ^ d ≤ i → (x w : Bool) → ltb i ((k + 1) * 2 ^ d) ≡ x → ltb j ((k + 1) * 2 ^ d) ≡ w → after i k x ≡ reached a z → after j k w ≡ reached b y
            → z + stored_size t (index 0 a) ≤ y
        split rec k g r true true p q u v = below_apart d k s a z b y r (ltb-true j ((k + 1) * 2 ^ d) q) u v
        split rec k g r true false p q u v =
            omega (arith, (below_inside i d k s a z u).high, (from_inside j (roots_below d n) (s + stored_size t (index d k)) b y v).low)
        split rec k g r false true p q u v =
            absurd (omega (arith, ltb-false i ((k + 1) * 2 ^ d) p, ltb-true j ((k + 1) * 2 ^ d) q))
        split rec k g r false false p q u v =
            rec (s + stored_size t (index d k)) a z b y (subst (λ (x : ℕ). x * 2 ^ d ≤ i) g (ltb-false i ((k + 1) * 2 ^ d) p)) h u v

        pick : ((s a z b y : ℕ) → n / 2 ^ d * 2 ^ d ≤ i → j < n → from_roots always (chunk_within i) t (roots_below d n) s ≡ reached a z
            → from_roots always (chunk_within j) t (roots_below d n) s ≡ reached b y → z + stored_size t (index 0 a) ≤ y)
            → (n / 2 ^ d % 2 ≡ 0) ⊎ (n / 2 ^ d % 2 ≡ 1) → z + stored_size t (index 0 a) ≤ y
        pick rec (inl o) =
            let high : n / 2 ^ suc d * 2 ^ suc d ≡ n / 2 ^ d * 2 ^ d = omega (arith, high_bits d n, ap (λ (x : ℕ). x * 2 ^ d) o, zero-mul (2 ^ d)) in
            rec s a z b y (subst (λ (x : ℕ). x ≤ i) high l) h
            (subst (λ (r : List ℕ). from_roots always (chunk_within i) t (r ++ roots_below d n) s ≡ reached a z) (no_root d n o) e)
            (subst (λ (r : List ℕ). from_roots always (chunk_within j) t (r ++ roots_below d n) s ≡ reached b y) (no_root d n o) f)
        pick rec (inr o) =
            let k : ℕ = n / 2 ^ d - 1 in
            let up : k + 1 ≡ n / 2 ^ d = omega arith in
            let begins : k * 2 ^ d ≡ n / 2 ^ suc d * 2 ^ suc d =
            omega (arith, high_bits d n, ap (λ (x : ℕ). x * 2 ^ d) o, one-mul (2 ^ d), ap (λ (x : ℕ). x * 2 ^ d) up, block_end d k) in
            split rec k up (subst (λ (x : ℕ). x ≤ i) (sym begins) l) (ltb i ((k + 1) * 2 ^ d)) (ltb j ((k + 1) * 2 ^ d)) refl refl
            (sym (one i k) ∙ subst (λ (r : List ℕ). from_roots always (chunk_within i) t (r ++ roots_below d n) s ≡ reached a z) (one_root d n o) e)
            (sym (one j k) ∙ subst (λ (r : List ℕ). from_roots always (chunk_within j) t (r ++ roots_below d n) s ≡ reached b y) (one_root d n o) f)

    -- the bytes of a chunk begin where those of an earlier one end, or later
    pub descents_apart : (n a z b y : ℕ) → ChunkOf n j → descent always (chunk_within i) t n ≡ reached a z → descent always (chunk_within j) t n ≡ reached b y
        → z + stored_size t (index 0 a) ≤ y
    unfolding descent roots
    descents_apart n a z b y h e f =
        let first : n / 2 ^ 21 * 2 ^ 21 ≡ 0 = ap (λ (x : ℕ). x * 2 ^ 21) (div-eq_of_lt (omega (arith, h.count))) ∙ zero-mul (2 ^ 21) in
        from_apart n 21 0 a z b y (subst (λ (x : ℕ). x ≤ i) (sym first) (omega arith)) h.below e f
