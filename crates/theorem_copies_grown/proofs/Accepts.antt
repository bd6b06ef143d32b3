-- A copy of which that holds is accepted.
-- Assumes nothing.
use Prim.Native.Nat.{ℕ, zero, suc, ◌+◌, ◌-◌, ◌*◌, ◌^◌, ◌≤◌, ◌<◌}
use mathlib.Core.Path.{◌≡◌, refl, sym, ap, ap₂, ◌∙◌, subst}
use mathlib.Core.Bool.{Bool, true, false, cond, not, ◌&&◌, ◌||◌}
use mathlib.Core.Logic.{◌⊎◌, inl, inr}
use mathlib.Core.List.{List, [], ◌∷◌, ◌++◌}
use native.Mathlib.Omega.{arith}
use borrow.Author.Tests.{le-leb, ltb-true, ltb-false, eq-eqb}
use lib.Dec.{leb, ltb, eqb}
use lib.ListN.{length, get_or, take}
use lib.Seq.{get_or-take}
use Rattle.answer_types.specs.Verdict.{tree, bitfield, done}
use Rattle.byte_strings.specs.Lists.{part, joined, total, same_list, all_zero, zeros}
use Rattle.byte_strings.specs.Lowest.{Lowest, nowhere, first}
use Rattle.byte_strings.proofs.Lists.{length_part, get_d_part, run_ext, same_of}
use Rattle.byte_strings.proofs.Bools.{clash, true_both, or_true}
use Rattle.byte_strings.proofs.Lowest.{lowest_none}
use Rattle.tree_index.specs.Tree.{index, block, left_child, right_child, filled, root_of, roots_below, roots, entries}
use Rattle.tree_index.proofs.Index.{depth_index, block_index, by_coordinates, left_child_index, right_child_index}
use Rattle.tree_index.proofs.Filled.{filled_below, filled_end, filled_left}
use Rattle.bitfield.specs.Image.{entry, entry_count, entries_for}
use Rattle.bitfield.specs.Release.{stored_held}
use Rattle.bitfield.specs.Known.{stored_known}
use Rattle.bitfield.proofs.Image.{entry_ext}
use Rattle.file_format.specs.Headers.{bitfield_header}
use Rattle.file_format.specs.Sizes.{longest_chunk, entry_place, used_bitfield}
use Rattle.file_format.specs.Messages.{leaf_message, parent_message}
use Rattle.file_format.specs.Stored.{stored_hash, stored_size, stored_root_sizes}
use Rattle.checks.specs.Checks.{adds_up}
use Rattle.audit.specs.Audit.{parent_right, hole_right, held_bits, refused_at, byte_right_by, leaf_from}
use Rattle.lookup.specs.Descent.{chunk_within}
use Rattle.lookup.specs.Lookup.{to_chunk}
use Rattle.packet.specs.Inner.{ChunkOf}
use Rattle.copy_checks.specs.Copy.{Copy, known}
use Rattle.lookup.specs.Unknown.{first_unknown}
use Rattle.copy_checks.specs.Checks.{unknown_root, passed_over}
use Rattle.copy_checks.proofs.Steps.{partly_passes}
use Rattle.lookup.proofs.ReadOrder.{reads}
use Rattle.copy_checks.proofs.Descents.{unknown_to_chunk, chunk_same}
use Rattle.copy_audit.specs.Audit.{wrong_unless, held_leaf, both_known, wrong_from, wrong_by_leaf, wrong_by_parent, wrong_by_known, wrong_by_unknown, copy_byte_right}
use Rattle.copy_audit.specs.Audit.{wrong_by, wrong_entry_of_copy, known_bits, wrong_byte_of_copy, audit_copy, AcceptedCopy, leaf_right_from}
use Rattle.copy_audit.proofs.Judged.{right_unless}
use Rattle.file_format.proofs.Shown.{shown_used}
use Rattle.copy_checks.proofs.Least.{each_least}
use Rattle.theorem_taking_laws.proofs.Ways.{above_root}
use Rattle.theorem_taking_laws.proofs.Roots.{in_roots_filled}
use Rattle.theorem_taking_laws.proofs.Reaches.{chunk_start}
use Rattle.theorem_taking_laws.proofs.Unknown.{all_known, none_unknown}
use Rattle.theorem_copies_grown.proofs.Grows.{Follows, Outside, Grows, stored_held_lem, stored_known_lem, filled_known, chunk_there, comes_to, reads_known, inside_data, lie_apart}
use Rattle.file_format.specs.Images.{bitfield_of}

-- ---- tests that pass

zeros_all : (xs : List ℕ) → ((j : ℕ) → j < length xs → get_or xs j 0 ≡ 0) → all_zero xs ≡ true
unfolding all_zero
zeros_all [] h = refl
zeros_all (x ∷ xs) h = true_both (eqb x 0) (all_zero xs) (eq-eqb x 0 (h 0 (omega arith))) (zeros_all xs (λ j l. h (suc j) (omega arith)))

no_roots : (t : List ℕ) → total (stored_root_sizes t 0) ≡ 0
unfolding stored_root_sizes roots roots_below root_of total
no_roots t = refl

adds_up_lem : (t : List ℕ) (n size : ℕ) → total (stored_root_sizes t n) ≡ size → adds_up t n size ≡ true
unfolding adds_up
adds_up_lem t n size e = eq-eqb (total (stored_root_sizes t n)) size e

-- ---- the entries

module _ (F : List ℕ → List ℕ) (c : Copy) (g : Grows F c) where
  abbrev t : List ℕ
  t = c.tree

  abbrev start : ℕ → ℕ
  start k = chunk_start c.tree c.n k

  abbrev size : ℕ → ℕ
  size k = stored_size c.tree (index 0 k)

  -- the data of a known leaf whose chunk is not held are zero
  blank_leaf : (k : ℕ) → g.knows_of (index 0 k) ≡ true → g.held_of k ≡ false → all_zero (part c.content (start k) (size k)) ≡ true
  blank_leaf k l h =
      let room : start k + size k ≤ c.size = inside_data F c g k l in
      let long : length (part c.content (start k) (size k)) ≡ size k = length_part c.content (start k) (size k) (omega (arith, g.lent.content)) in
      zeros_all (part c.content (start k) (size k))
      (λ j m.
      let below : j < size k = omega arith in
      get_d_part c.content (start k) (size k) j 0 below
      ∙ g.blank (start k + j) (omega arith) (λ i q. other i q j below (lie_apart F c g i k (λ e. clash (g.held_of k) (sym (ap g.held_of e) ∙ q) h) (g.held_known i q) l)))
    where
      other : (i : ℕ) → g.held_of i ≡ true → (j : ℕ) → j < size k → (start i + size i ≤ start k) ⊎ (start k + size k ≤ start i) → Outside t c.n i (start k + j)
      other i q j m (inl a) = inr (omega arith)
      other i q j m (inr a) = inl (omega arith)

  leaf_right_lem : (k : ℕ) → g.knows_of (index 0 k) ≡ true → leaf_right_from F c k (start k) ≡ true
  unfolding leaf_from
  leaf_right_lem k l =
      true_both _ _ (le-leb (size k) longest_chunk (g.short k l))
      (true_both _ _ (le-leb (start k + size k) c.size (inside_data F c g k l))
      (pick (g.held_of k) refl))
    where
      hashes : Bool
      hashes = same_list (stored_hash t (index 0 k)) (F (leaf_message (part c.content (start k) (size k))))

      blanks : Bool
      blanks = all_zero (part c.content (start k) (size k))

      pick : (b : Bool) → g.held_of k ≡ b → cond (stored_held c.bitfield k) hashes blanks ≡ true
      pick true e =
          ap (λ (b : Bool). cond b hashes blanks) (stored_held_lem F c g k (g.held_below k e) ∙ e)
          ∙ same_of (stored_hash t (index 0 k)) (F (leaf_message (part c.content (start k) (size k)))) (g.bytes k e)
      pick false e =
          ap (λ (b : Bool). cond b hashes blanks) (stored_held_lem F c g k (chunk_there F c g k l).below ∙ e) ∙ blank_leaf k l e

  leaf_none : (k : ℕ) → g.knows_of (index 0 k) ≡ true → wrong_by_leaf F c k ≡ nowhere
  unfolding wrong_by_leaf wrong_from unknown_to_chunk to_chunk
  leaf_none k l =
      ap (wrong_from F c k)
      (chunk_same c k (none_unknown (known c) (reads (chunk_within k) t c.n) (λ x m. filled_known F c g x (reads_known F c g k l t x m))) ∙ comes_to F c g k l)
      ∙ right_unless (leaf_right_from F c k (start k)) (index 0 k) (leaf_right_lem k l)

  parent_right_lem : (d k : ℕ) → Follows F t d k → parent_right F t (index (suc d) k) ≡ true
  unfolding parent_right
  parent_right_lem d k w =
      subst₂' (left_child_index d k) (right_child_index d k)
    where
      right : ℕ → ℕ → Bool
      right l r =
          eqb (stored_size t (index (suc d) k)) (stored_size t l + stored_size t r)
          && same_list (stored_hash t (index (suc d) k)) (F (parent_message (stored_size t l + stored_size t r) (stored_hash t l) (stored_hash t r)))

      here : right (index d (2 * k)) (index d (2 * k + 1)) ≡ true
      here =
          true_both _ _ (eq-eqb (stored_size t (index (suc d) k)) (stored_size t (index d (2 * k)) + stored_size t (index d (2 * k + 1))) w.size)
          (same_of _ _ w.hash)

      subst₂' : {l r : ℕ} → l ≡ index d (2 * k) → r ≡ index d (2 * k + 1) → right l r ≡ true
      subst₂' p q = ap₂ right p q ∙ here

  parent_none : (d k : ℕ) → filled c.n (index (suc d) k) ≡ true → wrong_by_parent F c (index (suc d) k) ≡ nowhere
  unfolding wrong_by_parent both_known
  parent_none d k f =
      right_unless _ (index (suc d) k) (pick (g.knows_of (index d (2 * k))) refl)
    where
      judged : Bool → Bool → Bool
      judged a b = not (a && known c (right_child (index (suc d) k))) || b

      stored : known c (left_child (index (suc d) k)) ≡ g.knows_of (index d (2 * k))
      stored = ap (known c) (left_child_index d k) ∙ stored_known_lem F c g (index d (2 * k)) (filled_below c.n (index d (2 * k)) (filled_left c.n d k f))

      pick : (b : Bool) → g.knows_of (index d (2 * k)) ≡ b → judged (known c (left_child (index (suc d) k))) (parent_right F t (index (suc d) k)) ≡ true
      pick true e =
          ap (judged (known c (left_child (index (suc d) k)))) (parent_right_lem d k (g.follows d k f e)) ∙ or_true (not (known c (left_child (index (suc d) k))
          && known c (right_child (index (suc d) k))))
      pick false e = ap (λ (a : Bool). judged a (parent_right F t (index (suc d) k))) (stored ∙ e)

  known_none : (d k : ℕ) → g.knows_of (index d k) ≡ true → wrong_by_known F c (index d k) ≡ nowhere
  unfolding wrong_by_known
  known_none d k h = ap judge (depth_index d k) ∙ pick d refl
    where
      judge : ℕ → Lowest
      judge x = elim x [ zero ↦ wrong_by_leaf F c (block (index d k)) | suc e ↦ wrong_by_parent F c (index d k) ]

      pick : (x : ℕ) → x ≡ d → judge x ≡ nowhere
      pick zero e =
          ap (wrong_by_leaf F c) (block_index d k) ∙ leaf_none k (subst (λ (y : ℕ). g.knows_of (index y k) ≡ true) (sym e) h)
      pick (suc x) e =
          subst (λ (y : ℕ). wrong_by_parent F c (index y k) ≡ nowhere) e
          (parent_none x k (g.knows_filled_lem (index (suc x) k) (subst (λ (y : ℕ). g.knows_of (index y k) ≡ true) (sym e) h)))

  hole_right_lem : (i : ℕ) → i < entries c.n → g.knows_of i ≡ false → hole_right F t i ≡ true
  unfolding hole_right
  hole_right_lem i l h = same_of (part t (entry_place i) 40) (zeros 40) (g.nought i l h)

  not_held_lem : (d k : ℕ) → filled c.n (index d k) ≡ true → g.knows_of (index d k) ≡ false → not (held_leaf c.bitfield (index d k)) ≡ true
  unfolding held_leaf
  not_held_lem d k f h = ap (λ (x : ℕ). not (judge x)) (depth_index d k) ∙ pick d refl
    where
      judge : ℕ → Bool
      judge x = elim x [ zero ↦ stored_held c.bitfield (block (index d k)) | suc e ↦ false ]

      unheld : (b : Bool) → g.held_of k ≡ b → d ≡ 0 → b ≡ false
      unheld true e z = clash (g.knows_of (index d k)) (ap (λ (y : ℕ). g.knows_of (index y k)) z ∙ g.held_known k e) h
      unheld false e z = refl

      pick : (x : ℕ) → x ≡ d → not (judge x) ≡ true
      pick zero e =
          let below : (k + 1) * 2 ^ d ≤ c.n = filled_end c.n d k f in
          ap not (ap (stored_held c.bitfield) (block_index d k)
          ∙ stored_held_lem F c g k (omega (arith, subst (λ (y : ℕ). (k + 1) * 2 ^ y ≤ c.n) (sym e) below)) ∙ unheld (g.held_of k) refl (sym e))
      pick (suc x) e = refl

  entry_none : (i : ℕ) → i < entries c.n → wrong_by F c i ≡ nowhere
  unfolding wrong_by wrong_by_unknown
  entry_none =
      by_coordinates (λ i. i < entries c.n → wrong_by F c i ≡ nowhere) (λ d k l. pick d k l (filled c.n (index d k)) (g.knows_of (index d k)) refl refl)
    where
      found : ℕ → Bool → Bool → Lowest
      found i a b = cond a (cond b (wrong_by_known F c i) (wrong_by_unknown F c i)) (wrong_unless (hole_right F t i) i)

      pick : (d k : ℕ) → index d k < entries c.n → (a b : Bool) → filled c.n (index d k) ≡ a → g.knows_of (index d k) ≡ b
          → found (index d k) (filled c.n (index d k)) (known c (index d k)) ≡ nowhere
      pick d k l true true e f =
          ap₂ (found (index d k)) e (stored_known_lem F c g (index d k) l ∙ f) ∙ known_none d k f
      pick d k l true false e f =
          ap₂ (found (index d k)) e (stored_known_lem F c g (index d k) l ∙ f)
          ∙ right_unless _ (index d k) (true_both _ _ (hole_right_lem (index d k) l f) (not_held_lem d k e f))
      pick d k l false true e f = clash (filled c.n (index d k)) (g.knows_filled_lem (index d k) f) e
      pick d k l false false e f =
          ap₂ (found (index d k)) e (stored_known_lem F c g (index d k) l ∙ f) ∙ right_unless _ (index d k) (hole_right_lem (index d k) l f)

  entries_none : wrong_entry_of_copy F c ≡ nowhere
  unfolding wrong_entry_of_copy
  entries_none = each_least (wrong_by F c) 0 (entries c.n) (λ j a b. entry_none j (omega arith))

  -- ---- the bitfield file

  held_are : (k : ℕ) → held_bits c.bitfield c.n k ≡ g.held_of k
  unfolding held_bits
  held_are k = pick (ltb k c.n) (g.held_of k) refl refl
    where
      pick : (a b : Bool) → ltb k c.n ≡ a → g.held_of k ≡ b → (ltb k c.n && stored_held c.bitfield k) ≡ g.held_of k
      pick true b e f = ap (λ (x : Bool). x && stored_held c.bitfield k) e ∙ stored_held_lem F c g k (ltb-true k c.n e)
      pick false true e f = absurd (omega (arith, ltb-false k c.n e, g.held_below k f))
      pick false false e f = ap (λ (x : Bool). x && stored_held c.bitfield k) e ∙ sym f

  known_are : (i : ℕ) → known_bits c.bitfield c.n i ≡ g.knows_of i
  unfolding known_bits
  known_are i = pick (filled c.n i) (g.knows_of i) refl refl
    where
      pick : (a b : Bool) → filled c.n i ≡ a → g.knows_of i ≡ b → (filled c.n i && stored_known c.bitfield i) ≡ g.knows_of i
      pick true b e f = ap (λ (x : Bool). x && stored_known c.bitfield i) e ∙ stored_known_lem F c g i (filled_below c.n i e)
      pick false true e f = clash (filled c.n i) (g.knows_filled_lem i f) e
      pick false false e f = ap (λ (x : Bool). x && stored_known c.bitfield i) e ∙ sym f

  image_is : bitfield_of (held_bits c.bitfield c.n) (known_bits c.bitfield c.n) c.n ≡ take (used_bitfield c.n) c.bitfield
  unfolding bitfield_of entries_for
  image_is =
      ap (λ (r : List (List ℕ)). bitfield_header ++ joined r)
      (run_ext (entry (held_bits c.bitfield c.n) (known_bits c.bitfield c.n)) (entry g.held_of g.knows_of) 0 (entry_count c.n)
      (λ e a b. entry_ext (held_bits c.bitfield c.n) g.held_of (known_bits c.bitfield c.n) g.knows_of held_are known_are e))
      ∙ sym (ap (take (used_bitfield c.n)) g.bits ∙ shown_used g.held_of g.knows_of c.n g.tail)

  bytes_none : wrong_byte_of_copy c ≡ nowhere
  unfolding wrong_byte_of_copy byte_right_by used_bitfield
  bytes_none =
      lowest_none (copy_byte_right c.bitfield c.n) 32 (used_bitfield c.n - 32)
      (λ b l h.
      eq-eqb (get_or c.bitfield b 0) (get_or (bitfield_of (held_bits c.bitfield c.n) (known_bits c.bitfield c.n) c.n) b 0)
      (sym (ap (λ (x : List ℕ). get_or x b 0) image_is ∙ get_or-take (used_bitfield c.n) c.bitfield b 0 (omega arith))))

  -- ---- 6

  size_right : passed_over (unknown_root c) (adds_up t c.n c.size) ≡ true
  unfolding unknown_root
  size_right = pick (first_unknown (known c) (roots c.n)) refl
    where
      sums : first_unknown (known c) (roots c.n) ≡ nowhere → (m : ℕ) → m ≡ c.n → total (stored_root_sizes t c.n) ≡ c.size
      sums e zero z =
          subst (λ (m : ℕ). total (stored_root_sizes t m) ≡ 0) z (no_roots t) ∙ sym (g.empty (sym z))
      sums e (suc m) z =
          let h : ChunkOf c.n 0 = record { count = g.lent.count; below = omega arith } in
          let r = above_root c.n 0 h in
          let k = all_known (known c) (roots c.n) e _ r in
          g.adds _ r (sym (stored_known_lem F c g _ (filled_below c.n _ (in_roots_filled c.n _ r))) ∙ k)

      pick : (x : Lowest) → first_unknown (known c) (roots c.n) ≡ x → passed_over x (adds_up t c.n c.size) ≡ true
      pick nowhere e = adds_up_lem t c.n c.size (sums e c.n refl)
      pick (first i) e = refl

  pub accepts : AcceptedCopy F c
  unfolding audit_copy refused_at
  accepts =
      partly_passes c (refused_at 10 tree (wrong_entry_of_copy F c) (refused_at 11 bitfield (wrong_byte_of_copy c) done)) g.lent size_right
      ∙ ap₂ (λ (x y : Lowest). refused_at 10 tree x (refused_at 11 bitfield y done)) entries_none bytes_none
