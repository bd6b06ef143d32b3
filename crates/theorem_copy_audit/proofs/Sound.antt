-- The audit of a copy is done exactly where every entry and every byte of the bitfield file is right. Assumes nothing.
use Prim.Native.Nat.{ℕ, zero, suc, ◌+◌, ◌-◌, ◌*◌, ◌≤◌, ◌<◌}
use mathlib.Core.Path.{◌≡◌, refl, sym, ap, ap₂, ◌∙◌, subst}
use mathlib.Core.Bool.{Bool, true, false, cond, not, ◌&&◌, ◌||◌}
use mathlib.Core.List.{List, ◌++◌}
use native.Mathlib.Nat.{zero-add, mul-one, mul_comm}
use native.Mathlib.Omega.{arith}
use borrow.Author.Tests.{leb-true, le-leb, eqb-true, eq-eqb}
use lib.Dec.{leb}
use lib.ListN.{get_or, take}
use lib.Seq.{take-add, get_or-take}
use Rattle.answer_types.specs.Verdict.{tree, bitfield, done}
use Rattle.byte_strings.specs.Lists.{part, run, joined, same_list, all_zero, zeros}
use Rattle.byte_strings.specs.Lowest.{Lowest, nowhere, first}
use Rattle.byte_strings.proofs.Lists.{length_part, length_joined, same_eq, same_of}
use Rattle.byte_strings.proofs.Lowest.{nowhere_right, right_nowhere, never_first}
use Rattle.byte_strings.proofs.Bools.{both_true, true_both, clash}
use Rattle.tree_index.specs.Tree.{index, left_child, right_child, filled, entries}
use Rattle.tree_index.proofs.Index.{depth_index, block_index, by_coordinates, left_child_index, right_child_index}
use Rattle.tree_index.proofs.Filled.{end_filled, filled_below, filled_end}
use Rattle.bitfield.specs.Release.{stored_held}
use Rattle.bitfield.specs.Image.{entry, entry_count, entries_for}
use Rattle.bitfield.proofs.Image.{length_entry}
use Rattle.file_format.specs.Headers.{bitfield_header}
use Rattle.file_format.specs.Sizes.{most_chunks, longest_chunk, entry_place, used_bitfield}
use Rattle.file_format.specs.Messages.{leaf_message, parent_message}
use Rattle.file_format.specs.Stored.{stored_hash, stored_size}
use Rattle.audit.specs.Audit.{parent_right, hole_right, held_bits, refused_at, byte_right_by, leaf_from}
use Rattle.audit.proofs.Audited.{parent_right_lem, right_parent, at_must, all_zero_lem, zeros_zero}
use Rattle.lookup.specs.Descent.{Ending, stopped, reached, unknown, chunk_within, descent}
use Rattle.lookup.proofs.Descents.{Ends, ends, chunk_order}
use Rattle.short_lookup.proofs.Accepted.{entries_cut}
use Rattle.copy_checks.specs.Copy.{Copy, known}
use Rattle.copy_checks.specs.Descents.{copy_to_chunk}
use Rattle.copy_checks.specs.Checks.{passed_over}
use Rattle.copy_checks.proofs.Least.{least_each, each_least}
use Rattle.copy_checks.proofs.Steps.{Lent, partly_passed, partly_passes}
use Rattle.copy_audit.specs.Audit.{wrong_unless, held_leaf, both_known, wrong_from, wrong_by_leaf, wrong_by_parent, wrong_by_known, wrong_by_unknown, copy_byte_right}
use Rattle.copy_audit.specs.Audit.{wrong_by, wrong_entry_of_copy, known_bits, wrong_byte_of_copy, audit_copy, AcceptedCopy, leaf_right_from}
use Rattle.copy_audit.proofs.Judged.{unless_right, right_unless}
use Rattle.theorem_copy_audit.specs.Theorems.{leaf_data, bits_of, EntryZero, LeafSound, ParentSound, Sound}
use Rattle.file_format.specs.Images.{bitfield_of}

-- ---- what a test finds

-- 6 that is passed is passed over too
pub passed_too : (l : Lowest) (b : Bool) → b ≡ true → passed_over l b ≡ true
passed_too nowhere b e = e
passed_too (first i) b e = refl

-- ---- a descent that comes to a leaf comes to the one that is sought

pub comes_to : (knows : ℕ → Bool) (t : List ℕ) (n k j start : ℕ) → n ≤ most_chunks → k < n → descent knows (chunk_within k) t n ≡ reached j start → j ≡ k
comes_to knows t n k j start few below e =
    let l : Ends knows t n (λ p s. p ≤ k) (λ p s. k < p) (λ p s. Unit {0}) (reached j start) =
    subst (Ends knows t n (λ p s. p ≤ k) (λ p s. k < p) (λ p s. Unit {0})) e
    (ends knows (chunk_within k) t n (λ p s. p ≤ k) (λ p s. k < p) (λ p s. Unit {0}) (chunk_order k) (λ d a s h w. tt) (omega arith) tt (omega arith) below)
    in
    omega (arith, l.met.low, l.met.high)

-- the bits that the audit compares with are those of the format
pub bits_are : (c : Copy) → bitfield_of (held_bits c.bitfield c.n) (known_bits c.bitfield c.n) c.n ≡ bits_of c
unfolding held_bits known_bits
bits_are c = refl

module _ (F : List ℕ → List ℕ) (c : Copy) where
  abbrev t : List ℕ
  t = c.tree

  abbrev size : ℕ → ℕ
  size k = stored_size c.tree (index 0 k)

  abbrev held_bit : ℕ → Bool
  held_bit k = stored_held c.bitfield k

  -- the last test of a leaf whose data begin at a start
  abbrev last_test_lem : Bool → ℕ → ℕ → Bool
  last_test_lem b k s = cond b (same_list (stored_hash t (index 0 k)) (F (leaf_message (part c.content s (size k))))) (all_zero (part c.content s (size k)))

  -- ---- a leaf

  leaf_sound : Lent c → (k : ℕ) → k < c.n → wrong_by_leaf F c k ≡ nowhere → LeafSound F c k
  unfolding wrong_by_leaf wrong_from leaf_from copy_to_chunk
  leaf_sound lent k below e = from (copy_to_chunk c k) refl e
    where
      from : (x : Ending) → copy_to_chunk c k ≡ x → wrong_from F c k x ≡ nowhere → LeafSound F c k
      from (stopped i) w q = never_first i q
      from (unknown i) w q = never_first (index 0 k) q
      from (reached j s) w q =
          let a = both_true (leb (size k) longest_chunk) _ (unless_right (leaf_right_from F c k s) (index 0 k) q) in
          let b = both_true (leb (s + size k) c.size) (last_test_lem (held_bit k) k s) a.1 in
          let inside : s + size k ≤ c.size = leb-true (s + size k) c.size b.0 in
          record {
            start = s;
            comes = w ∙ ap (λ (x : ℕ). reached x s) (comes_to (known c) c.tree c.n k j s lent.count below w);
            short = leb-true (size k) longest_chunk a.0;
            inside = inside;
            held = λ h. same_eq (stored_hash t (index 0 k)) (F (leaf_message (leaf_data c k s))) (ap (λ (x : Bool). last_test_lem x k s) (sym h) ∙ b.1);
            released = λ h.
                all_zero_lem (leaf_data c k s) (ap (λ (x : Bool). last_test_lem x k s) (sym h) ∙ b.1)
                ∙ ap zeros (length_part c.content s (size k) (omega (arith, inside, lent.content)));
          }

  sound_leaf : (k : ℕ) → LeafSound F c k → wrong_by_leaf F c k ≡ nowhere
  unfolding wrong_by_leaf wrong_from leaf_from
  sound_leaf k s =
      ap (wrong_from F c k) s.comes
      ∙ right_unless (leaf_right_from F c k s.start) (index 0 k)
      (true_both _ _ (le-leb (size k) longest_chunk s.short)
      (true_both _ _ (le-leb (s.start + size k) c.size s.inside) (last (held_bit k) refl)))
    where
      last : (b : Bool) → held_bit k ≡ b → last_test_lem (held_bit k) k s.start ≡ true
      last true e =
          ap (λ (x : Bool). last_test_lem x k s.start) e ∙ same_of (stored_hash t (index 0 k)) (F (leaf_message (leaf_data c k s.start))) (s.held e)
      last false e = ap (λ (x : Bool). last_test_lem x k s.start) e ∙ ap all_zero (s.released e) ∙ zeros_zero (size k)

  -- ---- a parent

  parent_sound : (d k : ℕ) → known c (index d (2 * k)) ≡ true → known c (index d (2 * k + 1)) ≡ true → wrong_by_parent F c (index (suc d) k) ≡ nowhere
      → ParentSound F t d k
  unfolding wrong_by_parent both_known
  parent_sound d k l r w =
      let i : ℕ = index (suc d) k in
      let both : both_known c i ≡ true =
      ap₂ ◌&&◌ (ap (known c) (left_child_index d k) ∙ l) (ap (known c) (right_child_index d k) ∙ r) in
      let p = parent_right_lem F t c.content i (where_known (both_known c i) (parent_right F t i) both (unless_right (not (both_known c i) || parent_right F t i) i w)) in
      record {
        size = p.sum ∙ ap₂ (λ (x y : ℕ). stored_size t x + stored_size t y) (left_child_index d k) (right_child_index d k);
        hash = p.hash ∙ ap₂ (λ (x y : ℕ). F (parent_message (stored_size t x + stored_size t y) (stored_hash t x) (stored_hash t y))) (left_child_index d k) (right_child_index d k);
      }
    where
      where_known : (b r : Bool) → b ≡ true → (not b || r) ≡ true → r ≡ true
      where_known true r e q = q
      where_known false r e q = clash false e refl

  sound_parent : (d k : ℕ) → (known c (index d (2 * k)) ≡ true → known c (index d (2 * k + 1)) ≡ true → ParentSound F t d k)
      → wrong_by_parent F c (index (suc d) k) ≡ nowhere
  unfolding wrong_by_parent both_known
  sound_parent d k s = right_unless _ i (pick (both_known c i) refl)
    where
      i : ℕ
      i = index (suc d) k

      pick : (b : Bool) → both_known c i ≡ b → (not b || parent_right F t i) ≡ true
      pick false e = refl
      pick true e =
          let a = both_true (known c (left_child i)) (known c (right_child i)) e in
          let p = s (sym (ap (known c) (left_child_index d k)) ∙ a.0) (sym (ap (known c) (right_child_index d k)) ∙ a.1) in
          let l = sym (left_child_index d k) in
          let r = sym (right_child_index d k) in
          right_parent F t c.content i
          (record {
            sum = p.size ∙ ap₂ (λ (x y : ℕ). stored_size t x + stored_size t y) l r;
            hash = p.hash ∙ ap₂ (λ (x y : ℕ). F (parent_message (stored_size t x + stored_size t y) (stored_hash t x) (stored_hash t y))) l r;
          })

  -- ---- an entry, by coordinates

  held_at : ℕ → ℕ → Bool
  held_at d k = elim d [ zero ↦ held_bit k | suc e ↦ false ]

  asked : Bool → Bool → ℕ → ℕ → ℕ → Lowest
  asked f b d k i =
      cond f (cond b (elim d [ zero ↦ wrong_by_leaf F c k | suc e ↦ wrong_by_parent F c i ]) (wrong_unless (hole_right F t i && not (held_at d k)) i))
      (wrong_unless (hole_right F t i) i)

  entry_is : (d k : ℕ) (f b : Bool) → filled c.n (index d k) ≡ f → known c (index d k) ≡ b → wrong_by F c (index d k) ≡ asked f b d k (index d k)
  unfolding wrong_by wrong_by_known wrong_by_unknown held_leaf asked held_at
  entry_is d k f b p q = (λ j. asked (p j) (q j) (depth_index d k j) (block_index d k j) (index d k))

  zero_hole : (i : ℕ) → hole_right F t i ≡ true → EntryZero t i
  unfolding hole_right
  zero_hole i e = same_eq (part t (entry_place i) 40) (zeros 40) e

  hole_zero : (i : ℕ) → EntryZero t i → hole_right F t i ≡ true
  unfolding hole_right
  hole_zero i e = same_of (part t (entry_place i) 40) (zeros 40) e

  pub leaf_filled : (k : ℕ) → k < c.n → filled c.n (index 0 k) ≡ true
  leaf_filled k h = end_filled c.n 0 k (omega (arith, mul-one (k + 1)))

  module _ (lent : Lent c) (none : (i : ℕ) → i < entries c.n → wrong_by F c i ≡ nowhere) where
    entry_none : (d k : ℕ) (f b : Bool) → filled c.n (index d k) ≡ f → known c (index d k) ≡ b → index d k < entries c.n
        → asked f b d k (index d k) ≡ nowhere
    entry_none d k f b p q h = sym (entry_is d k f b p q) ∙ none (index d k) h

    here : (d k : ℕ) → filled c.n (index d k) ≡ true → (b : Bool) → known c (index d k) ≡ b → asked true b d k (index d k) ≡ nowhere
    here d k f b e = entry_none d k true b f e (filled_below c.n (index d k) f)

    found_hole : (i : ℕ) → i < entries c.n → filled c.n i ≡ false → EntryZero t i
    unfolding asked
    found_hole =
        by_coordinates (λ i. i < entries c.n → filled c.n i ≡ false → EntryZero t i)
        (λ d k h f. zero_hole (index d k) (unless_right _ (index d k) (entry_none d k false (known c (index d k)) f refl h)))

    found_unknown : (i : ℕ) → filled c.n i ≡ true → known c i ≡ false → EntryZero t i
    unfolding asked
    found_unknown =
        by_coordinates (λ i. filled c.n i ≡ true → known c i ≡ false → EntryZero t i)
        (λ d k f e. zero_hole (index d k) (both_true _ _ (unless_right _ (index d k) (here d k f false e))).0)

    found_held : (k : ℕ) → k < c.n → held_bit k ≡ true → known c (index 0 k) ≡ true
    unfolding asked held_at
    found_held k h e = pick (known c (index 0 k)) refl
      where
        pick : (b : Bool) → known c (index 0 k) ≡ b → b ≡ true
        pick true q = refl
        pick false q =
            clash (not (held_bit k)) (both_true (hole_right F t (index 0 k)) (not (held_bit k)) (unless_right _ (index 0 k) (here 0 k (leaf_filled k h) false q))).1
            (ap not e)

    found_leaf : (k : ℕ) → k < c.n → known c (index 0 k) ≡ true → LeafSound F c k
    unfolding asked
    found_leaf k h e = leaf_sound lent k h (here 0 k (leaf_filled k h) true e)

    found_parent : (d k : ℕ) → filled c.n (index (suc d) k) ≡ true → known c (index (suc d) k) ≡ true → known c (index d (2 * k)) ≡ true
        → known c (index d (2 * k + 1)) ≡ true → ParentSound F t d k
    unfolding asked
    found_parent d k f e l r = parent_sound d k l r (here (suc d) k f true e)

  -- ---- the bitfield file

  abbrev held_of : ℕ → Bool
  held_of = held_bits c.bitfield c.n

  abbrev known_of : ℕ → Bool
  known_of = known_bits c.bitfield c.n

  found_bits : Lent c → wrong_byte_of_copy c ≡ nowhere → take (used_bitfield c.n) c.bitfield ≡ bitfield_of held_of known_of c.n
  unfolding wrong_byte_of_copy byte_right_by bitfield_of entries_for used_bitfield part
  found_bits lent none =
      let m : ℕ = 3328 * entry_count c.n in
      let es : List ℕ = joined (run (entry held_of known_of) 0 (entry_count c.n)) in
      let right : (b : ℕ) → 32 ≤ b → b < 32 + m → get_or c.bitfield b 0 ≡ get_or (bitfield_header ++ es) b 0 =
      λ b l h.
      let q : b ≡ 32 + (b - 32) = omega arith in
      eqb-true (get_or c.bitfield b 0) (get_or (bitfield_header ++ es) b 0)
      (ap (copy_byte_right c.bitfield c.n) q ∙ nowhere_right (copy_byte_right c.bitfield c.n) 32 (32 + m - 32) none (b - 32) (omega arith))
      in
      take-add 32 m c.bitfield
      ∙ ap₂ ◌++◌ lent.bitfield_front
      (entries_cut c.bitfield es m lent.bitfield
      (length_joined (entry held_of known_of) 3328 (length_entry held_of known_of) 0 (entry_count c.n) ∙ mul_comm (entry_count c.n) 3328) right)

  bits_found : take (used_bitfield c.n) c.bitfield ≡ bitfield_of held_of known_of c.n → wrong_byte_of_copy c ≡ nowhere
  unfolding wrong_byte_of_copy byte_right_by
  bits_found e =
      right_nowhere (copy_byte_right c.bitfield c.n) 32 (used_bitfield c.n - 32)
      (λ j h. eq-eqb (get_or c.bitfield (32 + j) 0) (get_or (bitfield_of held_of known_of c.n) (32 + j) 0)
      (sym (get_or-take (used_bitfield c.n) c.bitfield (32 + j) 0 (omega arith)) ∙ ap (λ (l : List ℕ). get_or l (32 + j) 0) e))

  -- ---- both ways

  pub accepted_sound : AcceptedCopy F c → Sound F c
  unfolding audit_copy wrong_entry_of_copy
  accepted_sound e =
      let p = partly_passed c _ e in
      let a = at_must 10 tree (wrong_entry_of_copy F c) (refused_at 11 bitfield (wrong_byte_of_copy c) done) p.1.1 in
      let b = at_must 11 bitfield (wrong_byte_of_copy c) done a.1 in
      let none : (i : ℕ) → i < entries c.n → wrong_by F c i ≡ nowhere =
      λ i h. ap (wrong_by F c) (sym (zero-add i)) ∙ least_each (wrong_by F c) 0 (entries c.n) a.0 i h
      in
      record {
        checks = partly_passes c done p.0 p.1.0;
        hole = found_hole p.0 none;
        unknown = found_unknown p.0 none;
        held_known = found_held p.0 none;
        leaf = found_leaf p.0 none;
        parent = found_parent p.0 none;
        bits = found_bits p.0 b.0 ∙ bits_are c;
      }

  module _ (s : Sound F c) where
    sound_entry : (d k : ℕ) (f b : Bool) → filled c.n (index d k) ≡ f → known c (index d k) ≡ b → index d k < entries c.n
        → asked f b d k (index d k) ≡ nowhere
    unfolding asked held_at
    sound_entry d k false b p q h = right_unless _ (index d k) (hole_zero (index d k) (s.hole (index d k) h p))
    sound_entry zero k true true p q h = sound_leaf k (s.leaf k (omega (arith, mul-one (k + 1), filled_end c.n 0 k p)) q)
    sound_entry (suc d) k true true p q h = sound_parent d k (s.parent d k p q)
    sound_entry zero k true false p q h =
        right_unless _ (index 0 k) (true_both _ _ (hole_zero (index 0 k) (s.unknown (index 0 k) p q)) (pick (held_bit k) refl))
      where
        pick : (b : Bool) → held_bit k ≡ b → not b ≡ true
        pick false e = refl
        pick true e = clash (known c (index 0 k)) (s.held_known k (omega (arith, mul-one (k + 1), filled_end c.n 0 k p)) e) q
    sound_entry (suc d) k true false p q h =
        right_unless _ (index (suc d) k) (true_both _ true (hole_zero (index (suc d) k) (s.unknown (index (suc d) k) p q)) refl)

    sound_none : (i : ℕ) → i < entries c.n → wrong_by F c i ≡ nowhere
    sound_none =
        by_coordinates (λ i. i < entries c.n → wrong_by F c i ≡ nowhere)
        (λ d k h. entry_is d k (filled c.n (index d k)) (known c (index d k)) refl refl
        ∙ sound_entry d k (filled c.n (index d k)) (known c (index d k)) refl refl h)

    pub sound_accepted : AcceptedCopy F c
    unfolding audit_copy wrong_entry_of_copy refused_at
    sound_accepted =
        let p = partly_passed c done s.checks in
        partly_passes c _ p.0 p.1.0
        ∙ ap₂ (λ (x y : Lowest). refused_at 10 tree x (refused_at 11 bitfield y done))
        (each_least (wrong_by F c) 0 (entries c.n) (λ j a b. sound_none j (omega arith))) (bits_found (s.bits ∙ sym (bits_are c)))
