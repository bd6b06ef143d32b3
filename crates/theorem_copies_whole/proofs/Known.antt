-- A descent that comes to a chunk's leaf has met no unknown entry: the nodes of the way, those beside it, and the roots are known. Assumes nothing.
use Prim.Native.Nat.{ℕ, zero, suc, ◌+◌, ◌*◌, ◌/◌, ◌^◌, ◌≤◌, ◌<◌}
use mathlib.Core.Path.{◌≡◌, refl, sym, ap, ◌∙◌, subst}
use mathlib.Core.Bool.{Bool, true, false}
use mathlib.Core.List.{List, [], ◌∷◌}
use native.Mathlib.Decide.{dec_lt}
use native.Mathlib.Omega.{arith}
use borrow.Author.Tests.{lt-ltb, le-ltb}
use lib.Dec.{ltb, eqb}
use lib.ListN.{length, get_or}
use Rattle.tree_index.specs.Tree.{index, depth, block, roots}
use Rattle.file_format.specs.Stored.{stored_size}
use Rattle.lookup.specs.Descent.{Ending, stopped, reached, if_known, chunk_within, descend, from_roots, descent}
use Rattle.packet.specs.Packet.{root_above, siblings, other_roots}
use Rattle.packet.specs.Inner.{ChunkOf}
use Rattle.copy_take_in.specs.TakeIn.{Given, brought}
use Rattle.byte_strings.proofs.Members.{In}
use Rattle.theorem_taking_laws.proofs.Ways.{way_index, side_index, siblings_deep, top_root, above_root, other_root}
use Rattle.theorem_taking_laws.proofs.Brought.{Brings, on_way, beside_way, other_root_lem, brings}
use Rattle.theorem_taking_laws.proofs.Halves.{Half, in_left_lem, in_right_lem, halves}
use Rattle.theorem_taking_laws.proofs.ReadsNear.{block_above}
use Rattle.theorem_taking_laws.proofs.ChunksApart.{never_stopped}
use Rattle.byte_strings.proofs.Bools.{chosen}

if_known_lem : (b : Bool) (i : ℕ) (e : Ending) (k s : ℕ) → if_known b i e ≡ reached k s → (b ≡ true) × (e ≡ reached k s)
if_known_lem true i e k s f = (refl, f)
if_known_lem false i e k s f = let z : ◌≡◌ {A = ℕ} 0 1 = cc in absurd (omega arith)

module _ (known : ℕ → Bool) (t : List ℕ) (c : ℕ) where
  -- the nodes of the way below depth d and those beside it
  abbrev pub KnownBelow : ℕ → Type 0
  KnownBelow d = (e : ℕ) → e < d → (known (way_index c e) ≡ true) × (known (side_index c e) ≡ true)

  below_known : (d k s a z : ℕ) → k ≡ c / 2 ^ d → descend known (chunk_within c) t d k s ≡ reached a z → KnownBelow d
  unfolding descend chunk_within
  below_known zero k s a z h f e l = absurd (omega arith)
  below_known (suc d) k s a z h f e l = at (below_known d) (dec_lt e d)
    where
      b : ℕ
      b = stored_size t (index d (2 * k))

      next : Bool → Ending
      next x = chosen x (descend known (chunk_within c) t d (2 * k) s) (descend known (chunk_within c) t d (2 * k + 1) (s + b))

      after : Ending
      after =
          chosen (eqb (stored_size t (index (suc d) k)) (stored_size t (index d (2 * k)) + stored_size t (index d (2 * k + 1))))
          (next (ltb c ((2 * k + 1) * 2 ^ d))) (stopped (index (suc d) k))

      left : (known (index d (2 * k)) ≡ true) × (if_known (known (index d (2 * k + 1))) (index d (2 * k + 1)) after ≡ reached a z)
      left = if_known_lem (known (index d (2 * k))) (index d (2 * k)) (if_known (known (index d (2 * k + 1))) (index d (2 * k + 1)) after) a z f

      right : (known (index d (2 * k + 1)) ≡ true) × (after ≡ reached a z)
      right = if_known_lem (known (index d (2 * k + 1))) (index d (2 * k + 1)) after a z left.1

      down : next (ltb c ((2 * k + 1) * 2 ^ d)) ≡ reached a z
      down = pick (eqb (stored_size t (index (suc d) k)) (stored_size t (index d (2 * k)) + stored_size t (index d (2 * k + 1)))) right.1
        where
          pick : (x : Bool) → chosen x (next (ltb c ((2 * k + 1) * 2 ^ d))) (stopped (index (suc d) k)) ≡ reached a z → next (ltb c ((2 * k + 1) * 2 ^ d)) ≡ reached a z
          pick true g = g
          pick false g = never_stopped (index (suc d) k) a z g

      here : Half c d k → (known (way_index c d) ≡ true) × (known (side_index c d) ≡ true)
      here (in_left_lem q x y w) = (ap known (sym x) ∙ left.0, ap known (sym y) ∙ right.0)
      here (in_right_lem q x y w) = (ap known (sym y) ∙ right.0, ap known (sym x) ∙ left.0)

      lower : ((k s a z : ℕ) → k ≡ c / 2 ^ d → descend known (chunk_within c) t d k s ≡ reached a z → KnownBelow d) → Half c d k → KnownBelow d
      lower rec (in_left_lem q x y w) =
          rec (2 * k) s a z (sym q) (ap next (sym (lt-ltb c ((2 * k + 1) * 2 ^ d) w)) ∙ down)
      lower rec (in_right_lem q x y w) =
          rec (2 * k + 1) (s + b) a z (sym q) (ap next (sym (le-ltb c ((2 * k + 1) * 2 ^ d) w)) ∙ down)

      at : ((k s a z : ℕ) → k ≡ c / 2 ^ d → descend known (chunk_within c) t d k s ≡ reached a z → KnownBelow d) → Dec (e < d)
          → (known (way_index c e) ≡ true) × (known (side_index c e) ≡ true)
      at rec (yes m) = lower rec (halves c d k h) e m
      at rec (no m) =
          let q : d ≡ e = omega arith in
          subst (λ (x : ℕ). (known (way_index c x) ≡ true) × (known (side_index c x) ≡ true)) q (here (halves c d k h))

  from_known : (is : List ℕ) (s a z : ℕ) → from_roots known (chunk_within c) t is s ≡ reached a z
      → (x : ℕ) × (descend known (chunk_within c) t (depth (root_above is c)) (block (root_above is c)) x ≡ reached a z)
  unfolding from_roots root_above chunk_within
  from_known [] s a z f = never_stopped 0 a z f
  from_known (i ∷ is) s a z f =
      pick (from_known is) (ltb c ((block i + 1) * 2 ^ depth i)) (if_known_lem (known i) i (after (ltb c ((block i + 1) * 2 ^ depth i))) a z f).1
    where
      after : Bool → Ending
      after b =
          chosen b (descend known (chunk_within c) t (depth i) (block i) s) (from_roots known (chunk_within c) t is (s + stored_size t i))

      pick : ((s a z : ℕ) → from_roots known (chunk_within c) t is s ≡ reached a z
          → (x : ℕ) × (descend known (chunk_within c) t (depth (root_above is c)) (block (root_above is c)) x ≡ reached a z))
          → (b : Bool) → after b ≡ reached a z
          → (x : ℕ) × (descend known (chunk_within c) t (depth (chosen b i (root_above is c))) (block (chosen b i (root_above is c))) x ≡ reached a z)
      pick rec true g = (s, g)
      pick rec false g = rec (s + stored_size t i) a z g

  pub descent_known : (n a z : ℕ) → ChunkOf n c → descent known (chunk_within c) t n ≡ reached a z → KnownBelow (length (siblings n c))
  unfolding descent
  descent_known n a z h f =
      let q = from_known (roots n) 0 a z f in
      subst KnownBelow (sym (siblings_deep n c))
      (below_known (depth (root_above (roots n) c)) (block (root_above (roots n) c)) q.0 a z (block_above t c n h) q.1)

  -- all that a packet of the chunk brings
  pub brought_known : (F : List ℕ → List ℕ) (p : List ℕ) (n : ℕ) → ChunkOf n c → KnownBelow (length (siblings n c))
      → ((r : ℕ) → In r (roots n) → known r ≡ true) → (g : Given) → In g (brought F p n c) → known g.at ≡ true
  brought_known F p n h below rooted g m = pick (brings F p n c g m)
    where
      way : (d : ℕ) → d ≤ length (siblings n c) → Dec (d < length (siblings n c)) → known (way_index c d) ≡ true
      way d l (yes b) = (below d b).0
      way d l (no b) =
          let q : d ≡ length (siblings n c) = omega arith in
          rooted (way_index c d) (subst (λ (x : ℕ). In x (roots n)) (sym (ap (way_index c) q ∙ top_root n c h)) (above_root n c h))

      pick : Brings F p n c g → known g.at ≡ true
      pick (on_way d l a e) = ap known a ∙ way d l (dec_lt d (length (siblings n c)))
      pick (beside_way d l a e) = ap known a ∙ (below d l).1
      pick (other_root_lem j l a e) = ap known a ∙ rooted (get_or (other_roots n c) j 0) (other_root n c h j l).0
