-- What the audit's verdict "done" says, entry by entry and byte by byte.
-- Assumes nothing.
use Prim.Native.Nat.{ℕ, zero, suc, ◌+◌, ◌-◌, ◌*◌, ◌≤◌, ◌<◌}
use mathlib.Core.Path.{◌≡◌, refl, sym, ap, ap₂, ◌∙◌, subst₂}
use mathlib.Core.Bool.{Bool, true, false, cond, ◌&&◌}
use mathlib.Core.Logic.{◌⊎◌, inl, inr}
use mathlib.Core.List.{List, [], ◌∷◌}
use native.Mathlib.Nat.{zero-add}
use native.Mathlib.Omega.{arith}
use borrow.Author.Tests.{leb-true, eqb-true, le-leb, eq-eqb}
use lib.ListN.{length, get_or, length-replicate}
use lib.Dec.{leb, eqb}
use Rattle.answer_types.specs.Verdict.{Spot, Verdict, tree, bitfield, done}
use Rattle.byte_strings.specs.Lists.{part, same_list, all_zero, zeros}
use Rattle.byte_strings.proofs.Lists.{same_eq, same_of}
use Rattle.byte_strings.proofs.Bools.{both_true, cases}
use Rattle.byte_strings.proofs.Lowest.{nowhere_right, right_nowhere}
use Rattle.tree_index.specs.Tree.{index, depth, block, left_child, right_child, filled, entries}
use Rattle.tree_index.proofs.Index.{depth_index, block_index, left_child_index, right_child_index}
use Rattle.bitfield.specs.Release.{stored_held}
use Rattle.file_format.specs.Sizes.{longest_chunk, entry_place, used_bitfield}
use Rattle.file_format.specs.Messages.{leaf_message, parent_message}
use Rattle.file_format.specs.Stored.{stored_hash, stored_size, stored_start, stored_chunk}
use Rattle.file_format.specs.Belongs.{Register}
use Rattle.file_format.proofs.Nodes.{by_depth_lem}
use Rattle.checks.proofs.Passed.{Passed, passes, passed}
use Rattle.audit.specs.Audit.{Lowest, nowhere, first, parent_right, hole_right, entry_right, wrong_entry, held_bits, wrong_byte, byte_right, byte_right_by}
use Rattle.audit.specs.Audit.{refused_at, images_verdict, audit, Accepted, leaf_from, leaf_right}
use Rattle.file_format.specs.Images.{bitfield_image}

-- ---- one entry

-- zeros, and a list that is tested for them
pub zero_same : (xs : List ℕ) → all_zero xs ≡ same_list xs (zeros (length xs))
unfolding all_zero same_list
zero_same [] = refl
zero_same (x ∷ xs) = ap (λ (b : Bool). eqb x 0 && b) (zero_same xs)

pub all_zero_lem : (xs : List ℕ) → all_zero xs ≡ true → xs ≡ zeros (length xs)
all_zero_lem xs e = same_eq xs (zeros (length xs)) (sym (zero_same xs) ∙ e)

pub zeros_zero : (k : ℕ) → all_zero (zeros k) ≡ true
zeros_zero k = zero_same (zeros k) ∙ same_of (zeros k) (zeros (length (zeros k))) (ap zeros (sym (length-replicate {A = ℕ} k 0)))

module _ (F : List ℕ → List ℕ) (t content : List ℕ) where
  -- "a leaf .. is wrong if it is over 65,536, runs past the data or has another hash"; the leaf of a chunk that is not held has zeros for its data
  pub record LeafRight (size : ℕ) (held : Bool) (k : ℕ) : Type 0 where
    pub short : stored_size t (2 * k) ≤ longest_chunk
    pub inside : stored_start t k + stored_size t (2 * k) ≤ size
    pub hash : held ≡ true → stored_hash t (2 * k) ≡ F (leaf_message (stored_chunk t content k))
    pub cleared : held ≡ false → all_zero (stored_chunk t content k) ≡ true

  -- the last test of a leaf
  abbrev last_test_lem : Bool → ℕ → Bool
  last_test_lem held k = cond held (same_list (stored_hash t (2 * k)) (F (leaf_message (stored_chunk t content k)))) (all_zero (stored_chunk t content k))

  pub leaf_right_lem : (size : ℕ) (held : Bool) (k : ℕ) → leaf_right F t content size held k ≡ true → LeafRight size held k
  unfolding leaf_from stored_chunk
  leaf_right_lem size held k e =
      let a = both_true (leb (stored_size t (2 * k)) longest_chunk) (leb (stored_start t k + stored_size t (2 * k)) size && last_test_lem held k) e in
      let b = both_true (leb (stored_start t k + stored_size t (2 * k)) size) (last_test_lem held k) a.1 in
      record {
        short = leb-true (stored_size t (2 * k)) longest_chunk a.0;
        inside = leb-true (stored_start t k + stored_size t (2 * k)) size b.0;
        hash = λ h. same_eq (stored_hash t (2 * k)) (F (leaf_message (stored_chunk t content k))) (ap (λ (x : Bool). last_test_lem x k) (sym h) ∙ b.1);
        cleared = λ h. ap (λ (x : Bool). last_test_lem x k) (sym h) ∙ b.1;
      }

  pub right_leaf : (size : ℕ) (held : Bool) (k : ℕ) → LeafRight size held k → leaf_right F t content size held k ≡ true
  unfolding leaf_from stored_chunk
  right_leaf size held k p =
      ap₂ ◌&&◌ (le-leb (stored_size t (2 * k)) longest_chunk p.short)
      (ap₂ ◌&&◌ (le-leb (stored_start t k + stored_size t (2 * k)) size p.inside) (last (cases held)))
    where
      last : (held ≡ true) ⊎ (held ≡ false) → last_test_lem held k ≡ true
      last (inl h) = ap (λ (x : Bool). last_test_lem x k) h ∙ same_of (stored_hash t (2 * k)) (F (leaf_message (stored_chunk t content k))) (p.hash h)
      last (inr h) = ap (λ (x : Bool). last_test_lem x k) h ∙ p.cleared h

  -- "a parent if it doesn't follow from its stored children", which are l and r
  pub record ParentRight (i l r : ℕ) : Type 0 where
    pub sum : stored_size t i ≡ stored_size t l + stored_size t r
    pub hash : stored_hash t i ≡ F (parent_message (stored_size t l + stored_size t r) (stored_hash t l) (stored_hash t r))

  pub parent_right_lem : (i : ℕ) → parent_right F t i ≡ true → ParentRight i (left_child i) (right_child i)
  unfolding parent_right
  parent_right_lem i e =
      let m : List ℕ = parent_message (stored_size t (left_child i) + stored_size t (right_child i)) (stored_hash t (left_child i)) (stored_hash t (right_child i)) in
      let a = both_true (eqb (stored_size t i) (stored_size t (left_child i) + stored_size t (right_child i))) (same_list (stored_hash t i) (F m)) e in
      record { sum = eqb-true (stored_size t i) (stored_size t (left_child i) + stored_size t (right_child i)) a.0; hash = same_eq (stored_hash t i) (F m) a.1 }

  pub right_parent : (i : ℕ) → ParentRight i (left_child i) (right_child i) → parent_right F t i ≡ true
  unfolding parent_right
  right_parent i p =
      let m : List ℕ = parent_message (stored_size t (left_child i) + stored_size t (right_child i)) (stored_hash t (left_child i)) (stored_hash t (right_child i)) in
      ap₂ ◌&&◌ (eq-eqb (stored_size t i) (stored_size t (left_child i) + stored_size t (right_child i)) p.sum) (same_of (stored_hash t i) (F m) p.hash)

  -- what is asked of an entry, by coordinates
  module _ (bits : List ℕ) (n size : ℕ) where
    asked : (b : Bool) (x k i : ℕ) → Bool
    asked b x k i = cond b (by_depth_lem x (leaf_right F t content size (stored_held bits k) k) (parent_right F t i)) (hole_right F t i)

    entry_right_leaf : (k : ℕ) → filled n (index zero k) ≡ true → entry_right F t bits content n size (index zero k) ≡ leaf_right F t content size (stored_held bits k) k
    unfolding entry_right asked
    entry_right_leaf k h = (λ j. asked (h j) (depth_index zero k j) (block_index zero k j) (index zero k))

    entry_right_parent : (d k : ℕ) → filled n (index (suc d) k) ≡ true → entry_right F t bits content n size (index (suc d) k) ≡ parent_right F t (index (suc d) k)
    unfolding entry_right asked
    entry_right_parent d k h = (λ j. asked (h j) (depth_index (suc d) k j) (block (index (suc d) k)) (index (suc d) k))

    -- the same of any index, by its depth
    pub even_entry : (i : ℕ) → depth i ≡ zero → filled n i ≡ true → entry_right F t bits content n size i ≡ leaf_right F t content size (stored_held bits (block i)) (block i)
    unfolding entry_right asked
    even_entry i z h = (λ j. asked (h j) (z j) (block i) i)

    pub odd_entry : (i d : ℕ) → depth i ≡ suc d → filled n i ≡ true → entry_right F t bits content n size i ≡ parent_right F t i
    unfolding entry_right asked
    odd_entry i d z h = (λ j. asked (h j) (z j) (block i) i)

    pub entry_right_hole : (i : ℕ) → filled n i ≡ false → entry_right F t bits content n size i ≡ hole_right F t i
    unfolding entry_right asked
    entry_right_hole i h = (λ j. asked (h j) (depth i) (block i) i)

    -- and what it says
    pub leaf_says_lem : (k : ℕ) → filled n (index zero k) ≡ true → entry_right F t bits content n size (index zero k) ≡ true → LeafRight size (stored_held bits k) k
    leaf_says_lem k h e = leaf_right_lem size (stored_held bits k) k (sym (entry_right_leaf k h) ∙ e)

    pub says_leaf : (k : ℕ) → filled n (index zero k) ≡ true → LeafRight size (stored_held bits k) k → entry_right F t bits content n size (index zero k) ≡ true
    says_leaf k h p = entry_right_leaf k h ∙ right_leaf size (stored_held bits k) k p

    pub parent_says : (d k : ℕ) → filled n (index (suc d) k) ≡ true → entry_right F t bits content n size (index (suc d) k) ≡ true
        → ParentRight (index (suc d) k) (index d (2 * k)) (index d (2 * k + 1))
    parent_says d k h e =
        subst₂ (ParentRight (index (suc d) k)) (left_child_index d k) (right_child_index d k) (parent_right_lem (index (suc d) k) (sym (entry_right_parent d k h) ∙ e))

    pub says_parent : (d k : ℕ) → filled n (index (suc d) k) ≡ true → ParentRight (index (suc d) k) (index d (2 * k)) (index d (2 * k + 1))
        → entry_right F t bits content n size (index (suc d) k) ≡ true
    says_parent d k h p =
        entry_right_parent d k h ∙ right_parent (index (suc d) k) (subst₂ (ParentRight (index (suc d) k)) (sym (left_child_index d k)) (sym (right_child_index d k)) p)

    pub hole_says : (i : ℕ) → filled n i ≡ false → entry_right F t bits content n size i ≡ true → part t (entry_place i) 40 ≡ zeros 40
    unfolding hole_right
    hole_says i h e = same_eq (part t (entry_place i) 40) (zeros 40) (sym (entry_right_hole i h) ∙ e)

    pub says_hole : (i : ℕ) → filled n i ≡ false → part t (entry_place i) 40 ≡ zeros 40 → entry_right F t bits content n size i ≡ true
    unfolding hole_right
    says_hole i h e = entry_right_hole i h ∙ same_of (part t (entry_place i) 40) (zeros 40) e

-- ---- the verdict

pub at_must : (m : ℕ) (at : ℕ → Spot) (l : Lowest) (next : Verdict) → refused_at m at l next ≡ done → (l ≡ nowhere) × (next ≡ done)
unfolding refused_at
at_must m at nowhere next e = (refl, e)
at_must m at (first i) next e = let z : ◌≡◌ {A = ℕ} 0 1 = cc in absurd (omega arith)

module _ (F : List ℕ → List ℕ) where
  pub record Audited (r : Register) : Type 0 where
    pub checked : Passed r
    pub entry : (i : ℕ) → i < entries r.n → entry_right F r.tree r.bitfield r.content r.n r.size i ≡ true
    pub byte : (b : ℕ) → 32 ≤ b → b < used_bitfield r.n → get_or r.bitfield b 0 ≡ get_or (bitfield_image (held_bits r.bitfield r.n) r.n) b 0

  pub accepted_audited : (r : Register) → Accepted F r → Audited r
  unfolding audit images_verdict wrong_entry wrong_byte byte_right_by
  accepted_audited r e =
      let a = passed r (images_verdict F r) e in
      let b = at_must 10 tree (wrong_entry F r) (refused_at 11 bitfield (wrong_byte r) done) a.1 in
      let c = at_must 11 bitfield (wrong_byte r) done b.1 in
      record {
        checked = a.0;
        entry =
            λ i h. ap (entry_right F r.tree r.bitfield r.content r.n r.size) (sym (zero-add i)) ∙ nowhere_right
            (entry_right F r.tree r.bitfield r.content r.n r.size) 0 (entries r.n) b.0 i h;
        byte = λ i l h. eqb-true (get_or r.bitfield i 0) (get_or (bitfield_image (held_bits r.bitfield r.n) r.n) i 0)
            (let j : ℕ = i - 32 in
            let q : i ≡ 32 + j = omega arith in
            ap (byte_right r.bitfield r.n) q ∙ nowhere_right (byte_right r.bitfield r.n) 32 (used_bitfield r.n - 32) c.0 j (omega arith));
      }

  pub audited_accepted : (r : Register) → Audited r → Accepted F r
  unfolding audit images_verdict wrong_entry wrong_byte byte_right_by refused_at
  audited_accepted r a =
      passes r (images_verdict F r) a.checked
      ∙ ap (λ (l : Lowest). refused_at 10 tree l (refused_at 11 bitfield (wrong_byte r) done))
      (right_nowhere (entry_right F r.tree r.bitfield r.content r.n r.size) 0 (entries r.n)
      (λ j h. ap (entry_right F r.tree r.bitfield r.content r.n r.size) (zero-add j) ∙ a.entry j h))
      ∙ ap (λ (l : Lowest). refused_at 11 bitfield l done)
      (right_nowhere (byte_right r.bitfield r.n) 32 (used_bitfield r.n - 32)
      (λ j h. eq-eqb (get_or r.bitfield (32 + j) 0) (get_or (bitfield_image (held_bits r.bitfield r.n) r.n) (32 + j) 0) (a.byte (32 + j) (omega arith) (omega arith))))
