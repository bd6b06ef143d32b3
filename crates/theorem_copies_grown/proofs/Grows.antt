-- What holds of a copy all the while it grows, and what follows for the descents to its known leaves.
-- Assumes nothing.
use Prim.Native.Nat.{ℕ, zero, suc, ◌+◌, ◌-◌, ◌*◌, ◌/◌, ◌^◌, ◌≤◌, ◌<◌}
use mathlib.Core.Path.{◌≡◌, refl, sym, ap, ◌∙◌, subst}
use mathlib.Core.Bool.{Bool, true, false}
use mathlib.Core.Logic.{◌⊎◌, inl, inr}
use mathlib.Core.List.{List}
use native.Mathlib.Nat.{div-one, mul-one}
use native.Mathlib.Omega.{arith}
use borrow.Author.Tests.{ltb-true, ltb-false}
use lib.Dec.{ltb}
use lib.ListN.{length, get_or}
use Rattle.byte_strings.specs.Lists.{part, total, zeros}
use Rattle.tree_index.specs.Tree.{index, parent, filled, roots, entries}
use Rattle.tree_index.proofs.Filled.{filled_end, filled_below}
use Rattle.bitfield.specs.Image.{entry_count}
use Rattle.bitfield.specs.Release.{stored_held}
use Rattle.bitfield.specs.Known.{stored_known}
use Rattle.file_format.specs.Sizes.{longest_chunk, entry_place}
use Rattle.file_format.specs.Messages.{leaf_message, parent_message}
use Rattle.file_format.specs.Stored.{stored_hash, stored_size, stored_root_sizes}
use Rattle.lookup.specs.Descent.{reached, chunk_within, descent, always}
use Rattle.packet.specs.Packet.{siblings}
use Rattle.packet.specs.Inner.{ChunkOf}
use Rattle.copy_checks.specs.Copy.{Copy}
use Rattle.copy_checks.proofs.Steps.{Lent}
use Rattle.lookup.proofs.ReadOrder.{reads}
use Rattle.byte_strings.proofs.Members.{In}
use Rattle.file_format.proofs.Shown.{shown, shown_held, shown_known}
use Rattle.theorem_taking_laws.proofs.Siblings.{sibling}
use Rattle.theorem_taking_laws.proofs.Ways.{way_index, side_index, way_parent, way_sibling, way_filled, above_root}
use Rattle.theorem_taking_laws.proofs.Halves.{Half, in_left_lem, in_right_lem, halves}
use Rattle.theorem_taking_laws.proofs.ReadsNear.{NearWay, reads_near}
use Rattle.theorem_taking_laws.proofs.Reaches.{chunk_start, WayRight, reaches}
use Rattle.theorem_taking_laws.proofs.ChunksApart.{descents_apart, descent_inside}

-- a parent follows from its stored children
pub record Follows (F : List ℕ → List ℕ) (t : List ℕ) (d k : ℕ) : Type 0 where
  pub size : stored_size t (index (suc d) k) ≡ stored_size t (index d (2 * k)) + stored_size t (index d (2 * k + 1))
  pub hash : stored_hash t (index (suc d) k)
      ≡ F (parent_message (stored_size t (index d (2 * k)) + stored_size t (index d (2 * k + 1))) (stored_hash t (index d (2 * k))) (stored_hash t (index d (2 * k + 1))))

-- the byte b is none of chunk k's
abbrev pub Outside : List ℕ → ℕ → ℕ → ℕ → Type 0
Outside t n k b = (b < chunk_start t n k) ⊎ (chunk_start t n k + stored_size t (index 0 k) ≤ b)

pub record Grows (F : List ℕ → List ℕ) (c : Copy) : Type 0 where
  pub lent : Lent c
  pub empty : c.n ≡ 0 → c.size ≡ 0
  -- which chunks are held and which entries known: the Index follows from these, and all other bits are 0
  pub held_of : ℕ → Bool
  pub knows_of : ℕ → Bool
  pub tail : List ℕ
  pub bits : c.bitfield ≡ shown held_of knows_of c.n tail
  pub held_below : (k : ℕ) → held_of k ≡ true → k < c.n
  pub knows_filled_lem : (i : ℕ) → knows_of i ≡ true → filled c.n i ≡ true
  -- an unknown entry is zero, and its chunk is not held
  pub nought : (i : ℕ) → i < entries c.n → knows_of i ≡ false → part c.tree (entry_place i) 40 ≡ zeros 40
  pub held_known : (k : ℕ) → held_of k ≡ true → knows_of (index 0 k) ≡ true
  -- with an entry its parent and its sibling are known, and with any entry all roots
  pub upward : (i : ℕ) → knows_of i ≡ true → filled c.n (parent i) ≡ true → (knows_of (parent i) ≡ true) × (knows_of (sibling i) ≡ true)
  pub rooted : (i : ℕ) → knows_of i ≡ true → (r : ℕ) → In r (roots c.n) → knows_of r ≡ true
  -- a parent whose left child is known follows from its children
  pub follows : (d k : ℕ) → filled c.n (index (suc d) k) ≡ true → knows_of (index d (2 * k)) ≡ true → Follows F c.tree d k
  pub short : (k : ℕ) → knows_of (index 0 k) ≡ true → stored_size c.tree (index 0 k) ≤ longest_chunk
  pub adds : (r : ℕ) → In r (roots c.n) → knows_of r ≡ true → total (stored_root_sizes c.tree c.n) ≡ c.size
  -- the bytes of a held chunk have the leaf's hash, and every byte of the data that is none of a held chunk's is zero
  pub bytes : (k : ℕ) → held_of k ≡ true → stored_hash c.tree (index 0 k)
      ≡ F (leaf_message (part c.content (chunk_start c.tree c.n k) (stored_size c.tree (index 0 k))))
  pub blank : (b : ℕ) → b < c.size → ((k : ℕ) → held_of k ≡ true → Outside c.tree c.n k b) → get_or c.content b 0 ≡ 0

module _ (F : List ℕ → List ℕ) (c : Copy) (g : Grows F c) where
  abbrev n : ℕ
  n = c.n

  -- ---- the stored bits

  pub stored_held_lem : (k : ℕ) → k < c.n → stored_held c.bitfield k ≡ g.held_of k
  stored_held_lem k h = ap (λ (l : List ℕ). stored_held l k) g.bits ∙ shown_held g.held_of g.knows_of c.n g.tail k h

  pub stored_known_lem : (i : ℕ) → i < entries c.n → stored_known c.bitfield i ≡ g.knows_of i
  unfolding entries entry_count
  stored_known_lem i h = ap (λ (l : List ℕ). stored_known l i) g.bits ∙ shown_known g.held_of g.knows_of c.n g.tail i (omega arith)

  pub filled_known : (i : ℕ) → g.knows_of i ≡ true → stored_known c.bitfield i ≡ true
  filled_known i k = stored_known_lem i (filled_below c.n i (g.knows_filled_lem i k)) ∙ k

  -- ---- the way to a leaf that is known

  module _ (k : ℕ) (l : g.knows_of (index 0 k) ≡ true) where
    pub chunk_there : ChunkOf c.n k
    chunk_there =
        let e : (k + 1) * 2 ^ 0 ≤ c.n = filled_end c.n 0 k (g.knows_filled_lem (index 0 k) l) in
        record { count = g.lent.count; below = omega (arith, mul-one (k + 1)) }

    pub way_known : (d : ℕ) → d ≤ length (siblings c.n k) → g.knows_of (way_index k d) ≡ true
    way_known zero h = subst (λ (x : ℕ). g.knows_of (index 0 x) ≡ true) (sym (div-one k)) l
    way_known (suc d) h =
        subst (λ (x : ℕ). g.knows_of x ≡ true) (way_parent k d)
        (g.upward (way_index k d) (way_known d (omega arith)) (ap (filled c.n) (way_parent k d) ∙ way_filled c.n k chunk_there (suc d) h)).0

    pub side_known : (d : ℕ) → d < length (siblings c.n k) → g.knows_of (side_index k d) ≡ true
    side_known d h =
        subst (λ (x : ℕ). g.knows_of x ≡ true) (way_sibling k d)
        (g.upward (way_index k d) (way_known d (omega arith)) (ap (filled c.n) (way_parent k d) ∙ way_filled c.n k chunk_there (suc d) h)).1

    pub way_sums : WayRight c.tree k (length (siblings c.n k))
    way_sums = ((λ e h. (g.follows e (k / 2 ^ suc e) (way_filled c.n k chunk_there (suc e) h) (left e h)).size), g.short k l)
      where
        left : (e : ℕ) → e < length (siblings c.n k) → g.knows_of (index e (2 * (k / 2 ^ suc e))) ≡ true
        left e h = pick (halves k e (k / 2 ^ suc e) refl)
          where
            pick : Half k e (k / 2 ^ suc e) → g.knows_of (index e (2 * (k / 2 ^ suc e))) ≡ true
            pick (in_left_lem q a b w) = subst (λ (x : ℕ). g.knows_of x ≡ true) (sym a) (way_known e (omega arith))
            pick (in_right_lem q a b w) = subst (λ (x : ℕ). g.knows_of x ≡ true) (sym a) (side_known e h)

    -- the descent to it comes to it
    pub comes_to : descent always (chunk_within k) c.tree c.n ≡ reached k (chunk_start c.tree c.n k)
    comes_to = reaches c.tree k c.n chunk_there way_sums

    pub reads_known : (t : List ℕ) (x : ℕ) → In x (reads (chunk_within k) t c.n) → g.knows_of x ≡ true
    reads_known t x m = pick (reads_near t k c.n chunk_there x m)
      where
        near : (d : ℕ) → d < length (siblings c.n k) → (x ≡ way_index k d) ⊎ (x ≡ side_index k d) → g.knows_of x ≡ true
        near d h (inl e) = ap g.knows_of e ∙ way_known d (omega arith)
        near d h (inr e) = ap g.knows_of e ∙ side_known d h

        pick : In x (roots c.n) ⊎ NearWay k (length (siblings c.n k)) x → g.knows_of x ≡ true
        pick (inl r) = g.rooted (index 0 k) l x r
        pick (inr q) = near q.0 q.1 q.2

    -- its bytes lie within the data
    pub inside_data : chunk_start c.tree c.n k + stored_size c.tree (index 0 k) ≤ c.size
    inside_data =
        let r = above_root c.n k chunk_there in
        subst (λ (x : ℕ). chunk_start c.tree c.n k + stored_size c.tree (index 0 k) ≤ x) (g.adds _ r (g.rooted (index 0 k) l _ r))
        (descent_inside c.tree k c.n k (chunk_start c.tree c.n k) comes_to)

  -- the bytes of two known leaves lie apart
  pub lie_apart : (j k : ℕ) → (j ≡ k → ⊥) → g.knows_of (index 0 j) ≡ true → g.knows_of (index 0 k) ≡ true
      → (chunk_start c.tree c.n j + stored_size c.tree (index 0 j) ≤ chunk_start c.tree c.n k)
      ⊎ (chunk_start c.tree c.n k + stored_size c.tree (index 0 k) ≤ chunk_start c.tree c.n j)
  lie_apart j k h a b = pick (ltb j k) refl
    where
      pick : (x : Bool) → ltb j k ≡ x → (chunk_start c.tree c.n j + stored_size c.tree (index 0 j) ≤ chunk_start c.tree c.n k)
          ⊎ (chunk_start c.tree c.n k + stored_size c.tree (index 0 k) ≤ chunk_start c.tree c.n j)
      pick true e =
          inl (descents_apart c.tree j k (ltb-true j k e) c.n j (chunk_start c.tree c.n j) k (chunk_start c.tree c.n k) (chunk_there k b)
          (comes_to j a) (comes_to k b))
      pick false e =
          inr (descents_apart c.tree k j (other (ltb-false j k e)) c.n k (chunk_start c.tree c.n k) j (chunk_start c.tree c.n j) (chunk_there j a)
          (comes_to k b) (comes_to j a))
        where
          other : k ≤ j → k < j
          other l = omega (arith, h)
