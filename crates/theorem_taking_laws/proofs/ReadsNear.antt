-- What a descent to a chunk reads: roots, the way to the chunk, and the siblings beside it. Assumes nothing.
use Prim.Native.Nat.{ℕ, zero, suc, ◌+◌, ◌*◌, ◌/◌, ◌^◌, ◌<◌}
use mathlib.Core.Path.{◌≡◌, refl, sym, ◌∙◌, subst}
use mathlib.Core.Bool.{Bool, true, false}
use mathlib.Core.Logic.{◌⊎◌, inl, inr}
use mathlib.Core.List.{List, [], ◌∷◌}
use native.Mathlib.Nat.{div-eq_of_lt-le}
use native.Mathlib.Omega.{arith}
use lib.Dec.{ltb, eqb}
use lib.ListN.{length}
use Rattle.byte_strings.proofs.Bools.{chosen}
use Rattle.tree_index.specs.Tree.{index, depth, block, roots}
use Rattle.file_format.specs.Stored.{stored_size}
use Rattle.lookup.specs.Descent.{chunk_within}
use Rattle.packet.specs.Packet.{root_above, siblings}
use Rattle.packet.specs.Inner.{ChunkOf}
use Rattle.packet.proofs.Above.{root_spans}
use Rattle.lookup.proofs.ReadOrder.{reads_below, reads_from, reads}
use Rattle.byte_strings.proofs.Members.{In}
use Rattle.theorem_taking_laws.proofs.Ways.{way_index, side_index, siblings_deep}
use Rattle.theorem_taking_laws.proofs.Halves.{Half, in_left_lem, in_right_lem, halves, goes_left, goes_right}

-- a node of the way below depth d, or one beside it
abbrev pub NearWay : ℕ → ℕ → ℕ → Type 0
NearWay c d x = (e : ℕ) × (e < d) × ((x ≡ way_index c e) ⊎ (x ≡ side_index c e))

module _ (t : List ℕ) (c : ℕ) where
  abbrev size : ℕ → ℕ → ℕ
  size d k = stored_size t (index d k)

  near_up : (d x : ℕ) → NearWay c d x → NearWay c (suc d) x
  near_up d x q = (q.0, omega (arith, q.1), q.2)

  abbrev Near : ℕ → Type 0
  Near d = (k s : ℕ) → k ≡ c / 2 ^ d → (x : ℕ) → In x (reads_below (chunk_within c) t d k s) → NearWay c d x

  below_near : (d k s : ℕ) → k ≡ c / 2 ^ d → (x : ℕ) → In x (reads_below (chunk_within c) t d k s) → NearWay c d x
  unfolding reads_below In
  below_near zero k s e x h = absurd h
  below_near (suc d) k s e x h =
      pick (below_near d) (halves c d k e) (eqb (size (suc d) k) (size d (2 * k) + size d (2 * k + 1))) h
    where
      deeper : Bool → Bool → List ℕ
      deeper b y = chosen b (chosen y (reads_below (chunk_within c) t d (2 * k) s) (reads_below (chunk_within c) t d (2 * k + 1) (s + size d (2 * k)))) []

      rest : Near d → (b y : Bool) → (y ≡ true → 2 * k ≡ c / 2 ^ d) → (y ≡ false → 2 * k + 1 ≡ c / 2 ^ d) → In x (deeper b y) → NearWay c (suc d) x
      rest rec true true f g m = near_up d x (rec (2 * k) s (f refl) x m)
      rest rec true false f g m = near_up d x (rec (2 * k + 1) (s + size d (2 * k)) (g refl) x m)
      rest rec false y f g m = absurd m

      pick : Near d → Half c d k → (b : Bool)
          → (index d (2 * k) ≡ x) ⊎ ((index d (2 * k + 1) ≡ x) ⊎ In x (deeper b (chunk_within c d (2 * k) s (size d (2 * k))))) → NearWay c (suc d) x
      pick rec (in_left_lem q l r w) b (inl m) = (d, omega arith, inl (sym m ∙ l))
      pick rec (in_left_lem q l r w) b (inr (inl m)) = (d, omega arith, inr (sym m ∙ r))
      pick rec (in_left_lem q l r w) b (inr (inr m)) =
          rest rec b true (λ z. sym q) (λ z. absurd (let y : ◌≡◌ {A = ℕ} 0 1 = cc in omega arith))
          (subst (λ (y : Bool). In x (deeper b y)) (goes_left c d (2 * k) s (size d (2 * k)) w) m)
      pick rec (in_right_lem q l r w) b (inl m) = (d, omega arith, inr (sym m ∙ l))
      pick rec (in_right_lem q l r w) b (inr (inl m)) = (d, omega arith, inl (sym m ∙ r))
      pick rec (in_right_lem q l r w) b (inr (inr m)) =
          rest rec b false (λ z. absurd (let y : ◌≡◌ {A = ℕ} 0 1 = cc in omega arith)) (λ z. sym q)
          (subst (λ (y : Bool). In x (deeper b y)) (goes_right c d (2 * k) s (size d (2 * k)) w) m)

  -- from the roots on: roots, and what is read below the first whose block ends behind chunk c
  from_near : (is : List ℕ) (s x : ℕ) → In x (reads_from (chunk_within c) t is s)
      → In x is ⊎ ((z : ℕ) × In x (reads_below (chunk_within c) t (depth (root_above is c)) (block (root_above is c)) z))
  unfolding reads_from root_above In chunk_within
  from_near [] s x h = absurd h
  from_near (i ∷ is) s x h = pick (from_near is) (ltb c ((block i + 1) * 2 ^ depth i)) h
    where
      later : In x is ⊎ ((z : ℕ) × In x (reads_below (chunk_within c) t (depth (root_above is c)) (block (root_above is c)) z))
          → ((i ≡ x) ⊎ In x is) ⊎ ((z : ℕ) × In x (reads_below (chunk_within c) t (depth (root_above is c)) (block (root_above is c)) z))
      later (inl m) = inl (inr m)
      later (inr m) = inr m

      pick : ((s x : ℕ) → In x (reads_from (chunk_within c) t is s)
          → In x is ⊎ ((z : ℕ) × In x (reads_below (chunk_within c) t (depth (root_above is c)) (block (root_above is c)) z)))
          → (b : Bool)
          → (i ≡ x) ⊎ In x (chosen b (reads_below (chunk_within c) t (depth i) (block i) s) (reads_from (chunk_within c) t is (s + stored_size t i)))
          → ((i ≡ x) ⊎ In x is)
          ⊎ ((z : ℕ) × In x (reads_below (chunk_within c) t (depth (chosen b i (root_above is c))) (block (chosen b i (root_above is c))) z))
      pick rec b (inl m) = inl (inl m)
      pick rec true (inr m) = inr (s, m)
      pick rec false (inr m) = later (rec (s + stored_size t i) x m)

  -- the root above chunk c, by its depth
  pub block_above : (n : ℕ) → ChunkOf n c → block (root_above (roots n) c) ≡ c / 2 ^ depth (root_above (roots n) c)
  block_above n h = let s = root_spans n c h in sym (div-eq_of_lt-le (2 ^ depth (root_above (roots n) c)) s.from s.to)

  -- "everything it reads": roots, and nodes of the way and beside it
  pub reads_near : (n : ℕ) → ChunkOf n c → (x : ℕ) → In x (reads (chunk_within c) t n) → In x (roots n) ⊎ NearWay c (length (siblings n c)) x
  unfolding reads
  reads_near n h x m = pick (from_near (roots n) 0 x m)
    where
      pick : In x (roots n) ⊎ ((z : ℕ) × In x (reads_below (chunk_within c) t (depth (root_above (roots n) c)) (block (root_above (roots n) c)) z))
          → In x (roots n) ⊎ NearWay c (length (siblings n c)) x
      pick (inl r) = inl r
      pick (inr q) =
          inr (subst (λ (d : ℕ). NearWay c d x) (sym (siblings_deep n c))
          (below_near (depth (root_above (roots n) c)) (block (root_above (roots n) c)) q.0 (block_above n h) x q.1))
