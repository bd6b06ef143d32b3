-- The steps of a descent at one node, by its tree index.
-- Assumes nothing.
use Prim.Native.Nat.{ℕ, zero, suc, ◌+◌, ◌-◌, ◌*◌, ◌%◌, ◌^◌, ◌≤◌, ◌<◌}
use mathlib.Core.Path.{◌≡◌, refl, sym, ap, ap₂, ◌∙◌, subst}
use mathlib.Core.Bool.{Bool, true, false, not}
use mathlib.Core.List.{List}
use native.Mathlib.Nat.{le_refl, le_trans, pos_of_ne-zero}
use native.Mathlib.Omega.{arith}
use borrow.Author.Tests.{le-leb, lt-leb, lt-ltb, le-ltb, eq-eqb, ne_eqb, leb-true, leb-false}
use lib.Dec.{leb, ltb}
use lib.ListN.{length}
use Rattle.tree_index.specs.Tree.{index, depth, block, left_child, right_child, filled, entries}
use Rattle.tree_index.proofs.Index.{depth_index, block_index, index_leaf, by_coordinates, left_child_index, right_child_index}
use Rattle.tree_index.proofs.Filled.{filled_below, end_filled, children_below}
use Rattle.file_format.specs.Sizes.{most_chunks, longest_chunk, used_tree}
use Rattle.file_format.specs.Stored.{stored_size}
use Rattle.file_format.specs.Inner.{EntryIn}
use Rattle.file_format.proofs.OfImage.{entry_inside}
use Rattle.lookup.specs.Descent.{Ending, stopped, reached, always, chunk_within, descend}
use Rattle.lookup.specs.Inner.{StandsAt, Turned, Onward}
use Rattle.lookup.proofs.Descents.{left_inside, right_end}

-- ---- the tests

-- chunk c lies in a block or before it where the block isn't filled among c chunks
pub chunk_within_lem : (c i s z : ℕ) → not (filled c i) ≡ chunk_within c (depth i) (block i) s z
unfolding filled chunk_within
chunk_within_lem c i s z = pick (leb e c) refl
  where
    e : ℕ
    e = (block i + 1) * 2 ^ depth i

    pick : (b : Bool) → leb e c ≡ b → not (leb e c) ≡ ltb c e
    pick true h = ap not h ∙ sym (le-ltb c e (leb-true e c h))
    pick false h = ap not h ∙ sym (lt-ltb c e (leb-false e c h))

-- ---- where a descent may stand

used_mono : (n m : ℕ) → n ≤ m → used_tree n ≤ used_tree m
unfolding used_tree entries
used_mono n m h = omega arith

-- an entry of n chunks lies within the tree file
pub entry_in_lem : (t : List ℕ) (n i : ℕ) → n ≤ most_chunks → used_tree n ≤ length t → i < entries n → EntryIn t i
unfolding entries
entry_in_lem t n i h l e = record { small = omega arith; inside = le_trans (entry_inside i n e) l }

pub filled_entry : (t : List ℕ) (n i : ℕ) → n ≤ most_chunks → used_tree n ≤ length t → filled n i ≡ true → EntryIn t i
filled_entry t n i h l e = entry_in_lem t n i h l (filled_below n i e)

-- a node is filled among the chunks up to its block's end
self_filled : (i : ℕ) → filled ((block i + 1) * 2 ^ depth i) i ≡ true
unfolding filled
self_filled i = le-leb ((block i + 1) * 2 ^ depth i) ((block i + 1) * 2 ^ depth i) (le_refl ((block i + 1) * 2 ^ depth i))

pub stands_entry : (t : List ℕ) (i s : ℕ) → StandsAt t i s → EntryIn t i
stands_entry t i s a = filled_entry t ((block i + 1) * 2 ^ depth i) i a.count a.inside (self_filled i)

pub stands_children : (t : List ℕ) (i s : ℕ) → StandsAt t i s → 0 < depth i → EntryIn t (left_child i) × EntryIn t (right_child i)
stands_children t i s a h =
    let n : ℕ = (block i + 1) * 2 ^ depth i in
    let e = children_below n i h (self_filled i) in
    (entry_in_lem t n (left_child i) a.count a.inside e.0, entry_in_lem t n (right_child i) a.count a.inside e.1)

-- a filled node may be visited
pub filled_stands : (t : List ℕ) (n i s : ℕ) → n ≤ most_chunks → used_tree n ≤ length t → filled n i ≡ true → s + stored_size t i < 2 ^ 64 → StandsAt t i s
unfolding filled
filled_stands t n i s h l f z =
    let e : (block i + 1) * 2 ^ depth i ≤ n = leb-true ((block i + 1) * 2 ^ depth i) n f in
    record { count = le_trans e h; inside = le_trans (used_mono ((block i + 1) * 2 ^ depth i) n e) l; fits = z }

-- a leaf's tree index is even
pub leaf_even : (i : ℕ) → depth i ≡ 0 → i % 2 ≡ 0
leaf_even = by_coordinates (λ i. depth i ≡ 0 → i % 2 ≡ 0) go
  where
    go : (d k : ℕ) → depth (index d k) ≡ 0 → index d k % 2 ≡ 0
    go zero k e = ap (λ (x : ℕ). x % 2) (index_leaf k) ∙ omega arith
    go (suc d) k e = absurd (omega (arith, depth_index (suc d) k))

-- ---- one step

-- a statement about the children of a parent, by coordinates
pub by_parents : (P : ℕ → ℕ → ℕ → Type 0) → ((d k : ℕ) → P (index (suc d) k) (index d (2 * k)) (index d (2 * k + 1))) → (i : ℕ) → 0 < depth i → P i (left_child i) (right_child i)
by_parents P h = by_coordinates (λ i. 0 < depth i → P i (left_child i) (right_child i)) go
  where
    go : (d k : ℕ) → 0 < depth (index d k) → P (index d k) (left_child (index d k)) (right_child (index d k))
    go zero k p = absurd (omega (arith, depth_index zero k))
    go (suc d) k p =
        subst (λ (x : ℕ). P (index (suc d) k) x (right_child (index (suc d) k))) (sym (left_child_index d k))
        (subst (P (index (suc d) k) (index d (2 * k))) (sym (right_child_index d k)) (h d k))

module _ (within : ℕ → ℕ → ℕ → ℕ → Bool) (t : List ℕ) (s : ℕ) where
  -- the descent from the node at i
  abbrev from : ℕ → Ending
  from i = descend always within t (depth i) (block i) s

  at_index_lem : (s' d k : ℕ) → descend always within t (depth (index d k)) (block (index d k)) s' ≡ descend always within t d k s'
  at_index_lem s' d k = ap₂ (λ (e b : ℕ). descend always within t e b s') (depth_index d k) (block_index d k)

  pub at_leaf : (i : ℕ) → depth i ≡ 0 → stored_size t i ≤ longest_chunk → from i ≡ reached (block i) s
  unfolding descend
  at_leaf = by_coordinates (λ i. depth i ≡ 0 → stored_size t i ≤ longest_chunk → from i ≡ reached (block i) s) go
    where
      here : (k : ℕ) → stored_size t (index 0 k) ≤ longest_chunk → descend always within t 0 k s ≡ reached k s
      here k l = ap (λ (b : Bool). elim b [ true ↦ reached k s | false ↦ stopped (index 0 k) ]) (le-leb (stored_size t (index 0 k)) longest_chunk l)

      go : (d k : ℕ) → depth (index d k) ≡ 0 → stored_size t (index d k) ≤ longest_chunk → from (index d k) ≡ reached (block (index d k)) s
      go zero k e l = at_index_lem s zero k ∙ here k l ∙ ap (λ (b : ℕ). reached b s) (sym (block_index zero k))
      go (suc d) k e l = absurd (omega (arith, depth_index (suc d) k))

  pub at_long_leaf : (i : ℕ) → depth i ≡ 0 → longest_chunk < stored_size t i → from i ≡ stopped i
  unfolding descend
  at_long_leaf = by_coordinates (λ i. depth i ≡ 0 → longest_chunk < stored_size t i → from i ≡ stopped i) go
    where
      here : (k : ℕ) → longest_chunk < stored_size t (index 0 k) → descend always within t 0 k s ≡ stopped (index 0 k)
      here k l = ap (λ (b : Bool). elim b [ true ↦ reached k s | false ↦ stopped (index 0 k) ]) (lt-leb (stored_size t (index 0 k)) longest_chunk l)

      go : (d k : ℕ) → depth (index d k) ≡ 0 → longest_chunk < stored_size t (index d k) → from (index d k) ≡ stopped (index d k)
      go zero k e l = at_index_lem s zero k ∙ here k l
      go (suc d) k e l = absurd (omega (arith, depth_index (suc d) k))

  -- a parent, its children, and which of them is taken
  abbrev taken : ℕ → ℕ → Bool → Ending
  taken d k b = elim b [ true ↦ descend always within t d (2 * k) s | false ↦ descend always within t d (2 * k + 1) (s + stored_size t (index d (2 * k))) ]

  pub at_wrong_sum : (i : ℕ) → 0 < depth i → (stored_size t i ≡ stored_size t (left_child i) + stored_size t (right_child i) → ⊥) → from i ≡ stopped i
  unfolding descend
  at_wrong_sum =
      by_parents (λ i l r. (stored_size t i ≡ stored_size t l + stored_size t r → ⊥) → from i ≡ stopped i)
      (λ d k h. at_index_lem s (suc d) k
      ∙ ap (λ (b : Bool). elim b [ true ↦ taken d k (within d (2 * k) s (stored_size t (index d (2 * k)))) | false ↦ stopped (index (suc d) k) ])
      (ne_eqb (stored_size t (index (suc d) k)) (stored_size t (index d (2 * k)) + stored_size t (index d (2 * k + 1))) h))

  right_sum : (d k : ℕ) → stored_size t (index (suc d) k) ≡ stored_size t (index d (2 * k)) + stored_size t (index d (2 * k + 1))
      → descend always within t (suc d) k s ≡ taken d k (within d (2 * k) s (stored_size t (index d (2 * k))))
  unfolding descend
  right_sum d k h =
      ap (λ (b : Bool). elim b [ true ↦ taken d k (within d (2 * k) s (stored_size t (index d (2 * k)))) | false ↦ stopped (index (suc d) k) ])
      (eq-eqb (stored_size t (index (suc d) k)) (stored_size t (index d (2 * k)) + stored_size t (index d (2 * k + 1))) h)

  within_index : (d k : ℕ) (b : Bool) → within (depth (index d k)) (block (index d k)) s (stored_size t (index d k)) ≡ b → within d k s (stored_size t (index d k)) ≡ b
  within_index d k b e = sym (ap₂ (λ (x y : ℕ). within x y s (stored_size t (index d k))) (depth_index d k) (block_index d k)) ∙ e

  pub goes_left : (i : ℕ) → 0 < depth i → stored_size t i ≡ stored_size t (left_child i) + stored_size t (right_child i)
      → within (depth (left_child i)) (block (left_child i)) s (stored_size t (left_child i)) ≡ true
      → descend always within t (depth (left_child i)) (block (left_child i)) s ≡ from i
  goes_left =
      by_parents (λ i l r. stored_size t i ≡ stored_size t l + stored_size t r → within (depth l) (block l) s (stored_size t l) ≡ true
      → descend always within t (depth l) (block l) s ≡ from i)
      (λ d k h e. at_index_lem s d (2 * k) ∙ sym (at_index_lem s (suc d) k ∙ right_sum d k h ∙ ap (taken d k) (within_index d (2 * k) true e)))

  pub goes_right : (i : ℕ) → 0 < depth i → stored_size t i ≡ stored_size t (left_child i) + stored_size t (right_child i)
      → within (depth (left_child i)) (block (left_child i)) s (stored_size t (left_child i)) ≡ false
      → descend always within t (depth (right_child i)) (block (right_child i)) (s + stored_size t (left_child i)) ≡ from i
  goes_right =
      by_parents (λ i l r. stored_size t i ≡ stored_size t l + stored_size t r → within (depth l) (block l) s (stored_size t l) ≡ false
      → descend always within t (depth r) (block r) (s + stored_size t l) ≡ from i)
      (λ d k h e. at_index_lem (s + stored_size t (index d (2 * k))) d (2 * k + 1)
      ∙ sym (at_index_lem s (suc d) k ∙ right_sum d k h ∙ ap (taken d k) (within_index d (2 * k) false e)))

-- both children of a parent with the right sum may be visited, and their depth is less
pub children_stand : (t : List ℕ) (s i : ℕ) → 0 < depth i → stored_size t i ≡ stored_size t (left_child i) + stored_size t (right_child i) → StandsAt t i s
    → (StandsAt t (left_child i) s × (depth (left_child i) < depth i)) × (StandsAt t (right_child i) (s + stored_size t (left_child i)) × (depth (right_child i) < depth i))
children_stand t s =
    by_parents
    (λ i l r. stored_size t i ≡ stored_size t l + stored_size t r → StandsAt t i s → (StandsAt t l s × (depth l < depth i)) × (StandsAt t r (s + stored_size t l) × (depth r < depth i)))
    (λ d k h a.
    let n : ℕ = (block (index (suc d) k) + 1) * 2 ^ depth (index (suc d) k) in
    let e : (k + 1) * 2 ^ suc d ≤ n = subst (λ (x : ℕ). x ≤ n) (ap₂ (λ (b f : ℕ). (b + 1) * 2 ^ f) (block_index (suc d) k) (depth_index (suc d) k)) (le_refl n) in (
      (
        filled_stands t n (index d (2 * k)) s a.count a.inside (end_filled n d (2 * k) (left_inside d k n e)) (omega (arith, a.fits)),
        less d k (2 * k),
      ),
      (
        filled_stands t n (index d (2 * k + 1)) (s + stored_size t (index d (2 * k))) a.count a.inside
            (end_filled n d (2 * k + 1) (subst (λ (x : ℕ). x ≤ n) (sym (right_end d k)) e)) (omega (arith, a.fits)),
        less d k (2 * k + 1),
      ),
    ))
  where
    less : (d k j : ℕ) → depth (index d j) < depth (index (suc d) k)
    less d k j = omega (arith, depth_index d j, depth_index (suc d) k)

-- ---- a visit of a parent, as the code makes it

-- what the code has read at the parent i: its children l and r, and the three lengths
pub record Seen (t : List ℕ) (i l r size first second : ℕ) : Type 0 where
  pub deep : 0 < depth i
  pub left : l ≡ left_child i
  pub right : r ≡ right_child i
  pub here : size ≡ stored_size t i
  pub one : first ≡ stored_size t l
  pub two : second ≡ stored_size t r

pub deeper : (i : ℕ) {x : ℕ} → x ≡ depth i → (x ≡ 0 → ⊥) → 0 < depth i
deeper i e h = subst (λ (y : ℕ). 0 < y) e (pos_of_ne-zero h)

module _ (within : ℕ → ℕ → ℕ → ℕ → Bool) {t : List ℕ} {s i l r size first second : ℕ} (a : StandsAt t i s) (v : Seen t i l r size first second) where
  -- the sum of two lengths, judged as whole numbers by a difference
  sums : first ≤ size → size - first ≡ second → stored_size t i ≡ stored_size t (left_child i) + stored_size t (right_child i)
  sums h e =
      sym v.here ∙ (let x : size ≡ first + second = omega arith in x) ∙ ap₂ ◌+◌ (v.one ∙ ap (stored_size t) v.left) (v.two ∙ ap (stored_size t) v.right)

  -- another sum: the descent stops here
  abbrev Ended : Type 0
  Ended = (stopped i ≡ descend always within t (depth i) (block i) s) × (0 < depth i → stored_size t i ≡ stored_size t (left_child i) + stored_size t (right_child i) → ⊥)

  wrong : (size ≡ first + second → ⊥) → Ended
  wrong h =
      let other : stored_size t i ≡ stored_size t (left_child i) + stored_size t (right_child i) → ⊥ =
      λ e. h (v.here ∙ e ∙ sym (ap₂ ◌+◌ (v.one ∙ ap (stored_size t) v.left) (v.two ∙ ap (stored_size t) v.right)))
      in
      (sym (at_wrong_sum within t s i v.deep other), λ p. other)

  pub seen_less : size < first → Ended
  seen_less h = wrong (λ e. omega arith)

  pub seen_other : (size - first ≡ second → ⊥) → Ended
  seen_other h = wrong (λ e. h (omega arith))

  -- the child at x, whose bytes begin at y
  abbrev Child : ℕ → ℕ → Type 0
  Child x y =
      (descend always within t (depth x) (block x) y ≡ descend always within t (depth i) (block i) s) × ((StandsAt t x y × (depth x < depth i)) × Onward within t i s x y)

  onward : (x y : ℕ) (b : Bool) → stored_size t i ≡ stored_size t (left_child i) + stored_size t (right_child i)
      → within (depth (left_child i)) (block (left_child i)) s (stored_size t (left_child i)) ≡ b → Turned b t i s x y → Onward within t i s x y
  onward x y b h f g = record { deep = v.deep; sum = h; turned = subst (λ (z : Bool). Turned z t i s x y) (sym f) g }

  pub seen_left : first ≤ size → size - first ≡ second → within (depth l) (block l) s first ≡ true → Child l s
  seen_left h e w =
      let f : within (depth (left_child i)) (block (left_child i)) s (stored_size t (left_child i)) ≡ true =
      subst (λ (y : ℕ). within (depth y) (block y) s (stored_size t y) ≡ true) v.left (subst (λ (z : ℕ). within (depth l) (block l) s z ≡ true) v.one w)
      in
      subst (λ (x : ℕ). Child x s) (sym v.left)
      (goes_left within t s i v.deep (sums h e) f, ((children_stand t s i v.deep (sums h e) a).0, onward (left_child i) s true (sums h e) f (refl, refl)))

  pub seen_right : first ≤ size → size - first ≡ second → within (depth l) (block l) s first ≡ false → Child r (s + first)
  seen_right h e w =
      let f : within (depth (left_child i)) (block (left_child i)) s (stored_size t (left_child i)) ≡ false =
      subst (λ (y : ℕ). within (depth y) (block y) s (stored_size t y) ≡ false) v.left (subst (λ (z : ℕ). within (depth l) (block l) s z ≡ false) v.one w)
      in
      subst (λ (z : ℕ). Child r (s + z)) (sym (v.one ∙ ap (stored_size t) v.left))
      (subst (λ (x : ℕ). Child x (s + stored_size t (left_child i))) (sym v.right) (
        goes_right within t s i v.deep (sums h e) f,
        (
          (children_stand t s i v.deep (sums h e) a).1,
          onward (right_child i) (s + stored_size t (left_child i)) false (sums h e) f (refl, refl),
        ),
      ))

  -- the left child's bytes end within the parent's
  pub seen_fits : first ≤ size → size - first ≡ second → s + first < 2 ^ 64
  seen_fits h e = let g : s + stored_size t i < 2 ^ 64 = a.fits in omega (arith, v.here)

pub seen_children : {t : List ℕ} {s i l r : ℕ} → StandsAt t i s → 0 < depth i → (l ≡ left_child i → EntryIn t l) × (r ≡ right_child i → EntryIn t r)
seen_children {t} {s} {i} a h =
    ((λ e. subst (EntryIn t) (sym e) (stands_children t i s a h).0), (λ e. subst (EntryIn t) (sym e) (stands_children t i s a h).1))
