-- The audit gets the same of a copy and of the same cut to its used sizes. Assumes nothing.
use Prim.Native.Nat.{ℕ, zero, suc, ◌+◌, ◌-◌, ◌<◌}
use mathlib.Core.Path.{◌≡◌, refl, ap, ap₂, ◌∙◌}
use mathlib.Core.Bool.{Bool, true, false, cond, not, ◌&&◌, ◌||◌}
use mathlib.Core.List.{List}
use native.Mathlib.Nat.{mul-one}
use native.Mathlib.Omega.{arith}
use borrow.Author.Tests.{leb-true}
use lib.Dec.{leb, eqb}
use lib.ListN.{get_or}
use lib.Seq.{get_or-take}
use Rattle.answer_types.specs.Verdict.{tree, bitfield, done}
use Rattle.byte_strings.specs.Lists.{part, same_list, all_zero}
use Rattle.byte_strings.specs.Lowest.{Lowest}
use Rattle.byte_strings.proofs.Lists.{run_ext, part_take}
use Rattle.byte_strings.proofs.Lowest.{lowest_agree}
use Rattle.tree_index.specs.Tree.{index, depth, block, left_child, right_child, filled, entries}
use Rattle.tree_index.proofs.Filled.{end_filled, filled_below}
use Rattle.bitfield.specs.Known.{stored_known}
use Rattle.bitfield.specs.Release.{stored_held}
use Rattle.file_format.specs.Sizes.{longest_chunk, used_bitfield}
use Rattle.file_format.specs.Messages.{leaf_message}
use Rattle.file_format.specs.Stored.{stored_hash, stored_size}
use Rattle.audit.specs.Audit.{hole_right, held_bits, refused_at, byte_right_by, leaf_from}
use Rattle.lookup.specs.Descent.{Ending, stopped, reached, unknown}
use Rattle.lookup.proofs.Unknown.{filled_children}
use Rattle.theorem_used_bytes.proofs.Cut.{held_cut, hash_cut, size_cut}
use Rattle.theorem_used_bytes.proofs.Audits.{and_same, parent_cut, hole_cut, leaf_below, bits_cut}
use Rattle.copy_checks.specs.Copy.{Copy, known}
use Rattle.copy_checks.specs.Descents.{copy_to_chunk}
use Rattle.copy_checks.specs.Least.{least_of}
use Rattle.copy_checks.specs.Checks.{partly_judged}
use Rattle.copy_audit.specs.Audit.{wrong_unless, held_leaf, both_known, wrong_from, wrong_by_leaf, wrong_by_parent, wrong_by_known, wrong_by_unknown, copy_byte_right}
use Rattle.copy_audit.specs.Audit.{wrong_by, wrong_entry_of_copy, known_bits, wrong_byte_of_copy, audit_copy, leaf_right_from}
use Rattle.theorem_copy_used_bytes.proofs.Cut.{cut_copy, known_cut, partly_cut}
use Rattle.theorem_copy_used_bytes.proofs.Descents.{to_chunk_cut}
use Rattle.file_format.specs.Images.{bitfield_of}

module _ (F : List ℕ → List ℕ) (c : Copy) where
  abbrev u : List ℕ
  u = (cut_copy c).tree

  abbrev w : List ℕ
  w = (cut_copy c).bitfield

  -- ---- a leaf

  -- the last test, of these bytes
  abbrev last_test_lem : Bool → List ℕ → List ℕ → Bool
  last_test_lem held hash d = cond held (same_list hash (F (leaf_message d))) (all_zero d)

  leaf_cut : (k start : ℕ) → k < c.n → leaf_right_from F (cut_copy c) k start ≡ leaf_right_from F c k start
  unfolding leaf_from
  leaf_cut k start h =
      let l : index 0 k < entries c.n = filled_below c.n (index 0 k) (end_filled c.n 0 k (omega (arith, mul-one (k + 1)))) in
      let z = size_cut c.tree c.n (index 0 k) l in
      let g = hash_cut c.tree c.n (index 0 k) l in
      let b = held_cut c.bitfield c.n k h in
      (λ i. leb (z i) longest_chunk && (leb (start + z i) c.size && last_test_lem (b i) (g i) (part (cut_copy c).content start (z i))))
      ∙ ap (λ (x : Bool). leb (stored_size c.tree (index 0 k)) longest_chunk && x)
      (and_same (leb (start + stored_size c.tree (index 0 k)) c.size)
      (last_test_lem (stored_held c.bitfield k) (stored_hash c.tree (index 0 k)) (part (cut_copy c).content start (stored_size c.tree (index 0 k))))
      (last_test_lem (stored_held c.bitfield k) (stored_hash c.tree (index 0 k)) (part c.content start (stored_size c.tree (index 0 k))))
      (λ e. ap (last_test_lem (stored_held c.bitfield k) (stored_hash c.tree (index 0 k)))
      (part_take c.content c.size start (stored_size c.tree (index 0 k)) (leb-true (start + stored_size c.tree (index 0 k)) c.size e))))

  by_leaf : (k : ℕ) → k < c.n → wrong_by_leaf F (cut_copy c) k ≡ wrong_by_leaf F c k
  unfolding wrong_by_leaf wrong_from
  by_leaf k h = ap (wrong_from F (cut_copy c) k) (to_chunk_cut c k) ∙ go (copy_to_chunk c k)
    where
      go : (e : Ending) → wrong_from F (cut_copy c) k e ≡ wrong_from F c k e
      go (stopped i) = refl
      go (reached j start) = ap (λ (b : Bool). wrong_unless b (index 0 k)) (leaf_cut k start h)
      go (unknown i) = refl

  -- ---- a parent, and an entry that is not known

  by_parent : (i : ℕ) → 0 < depth i → filled c.n i ≡ true → wrong_by_parent F (cut_copy c) i ≡ wrong_by_parent F c i
  unfolding wrong_by_parent both_known
  by_parent i p f =
      let k = filled_children c.n i p f in
      let l = known_cut c.bitfield c.n (left_child i) k.0 in
      let r = known_cut c.bitfield c.n (right_child i) k.1 in
      let a = parent_cut c.tree c.bitfield c.content c.n c.size F i (filled_below c.n i f) p f in
      λ j. wrong_unless (not (l j && r j) || a j) i

  held_leaf_lem : (i : ℕ) → filled c.n i ≡ true → held_leaf (cut_copy c).bitfield i ≡ held_leaf c.bitfield i
  unfolding held_leaf
  held_leaf_lem i f = go (depth i) refl
    where
      at : List ℕ → ℕ → Bool
      at bits d = elim d [ zero ↦ stored_held bits (block i) | suc e ↦ false ]

      go : (d : ℕ) → depth i ≡ d → at w d ≡ at c.bitfield d
      go zero z = held_cut c.bitfield c.n (block i) (leaf_below c.tree c.bitfield c.content c.n c.size F i z f)
      go (suc d) z = refl

  hole : (i : ℕ) → i < entries c.n → hole_right F u i ≡ hole_right F c.tree i
  hole i h = hole_cut c.tree c.bitfield c.content c.n c.size F i h

  by_unknown : (i : ℕ) → filled c.n i ≡ true → wrong_by_unknown F (cut_copy c) i ≡ wrong_by_unknown F c i
  unfolding wrong_by_unknown
  by_unknown i f = ap₂ (λ (x y : Bool). wrong_unless (x && not y) i) (hole i (filled_below c.n i f)) (held_leaf_lem i f)

  by_known : (i : ℕ) → filled c.n i ≡ true → wrong_by_known F (cut_copy c) i ≡ wrong_by_known F c i
  unfolding wrong_by_known
  by_known i f = go (depth i) refl
    where
      at : Copy → ℕ → Lowest
      at d e = elim e [ zero ↦ wrong_by_leaf F d (block i) | suc x ↦ wrong_by_parent F d i ]

      go : (d : ℕ) → depth i ≡ d → at (cut_copy c) d ≡ at c d
      go zero z = by_leaf (block i) (leaf_below c.tree c.bitfield c.content c.n c.size F i z f)
      go (suc d) z = by_parent i (omega arith) f

  pub by : (i : ℕ) → i < entries c.n → wrong_by F (cut_copy c) i ≡ wrong_by F c i
  unfolding wrong_by
  by i h = go (filled c.n i) refl
    where
      at : Bool → Copy → Lowest
      at b d = cond b (cond (known d i) (wrong_by_known F d i) (wrong_by_unknown F d i)) (wrong_unless (hole_right F d.tree i) i)

      go : (b : Bool) → filled c.n i ≡ b → at b (cut_copy c) ≡ at b c
      go true f =
          let k = known_cut c.bitfield c.n i f in
          let x = by_known i f in
          let y = by_unknown i f in
          λ j. cond (k j) (x j) (y j)
      go false f = ap (λ (b : Bool). wrong_unless b i) (hole i h)

  entry_found : wrong_entry_of_copy F (cut_copy c) ≡ wrong_entry_of_copy F c
  unfolding wrong_entry_of_copy
  entry_found = ap least_of (run_ext (wrong_by F (cut_copy c)) (wrong_by F c) 0 (entries c.n) (λ j p q. by j (omega arith)))

  -- ---- the bitfield

  bits_known : (i : ℕ) → known_bits w c.n i ≡ known_bits c.bitfield c.n i
  unfolding known_bits
  bits_known i = and_same (filled c.n i) (stored_known w i) (stored_known c.bitfield i) (λ f. known_cut c.bitfield c.n i f)

  pub byte_cut : (j : ℕ) → j < used_bitfield c.n → copy_byte_right w c.n j ≡ copy_byte_right c.bitfield c.n j
  unfolding byte_right_by
  byte_cut j h =
      let image : bitfield_of (held_bits w c.n) (known_bits w c.n) c.n ≡ bitfield_of (held_bits c.bitfield c.n) (known_bits c.bitfield c.n) c.n =
      λ i. bitfield_of (λ k. bits_cut c.tree c.bitfield c.content c.n c.size k i) (λ k. bits_known k i) c.n in
      ap₂ (λ (x : ℕ) (l : List ℕ). eqb x (get_or l j 0)) (get_or-take (used_bitfield c.n) c.bitfield j 0 h) image

  byte_found : wrong_byte_of_copy (cut_copy c) ≡ wrong_byte_of_copy c
  unfolding wrong_byte_of_copy
  byte_found = lowest_agree (copy_byte_right w c.n) (copy_byte_right c.bitfield c.n) 32 (used_bitfield c.n - 32) (λ j p q before. byte_cut j (omega arith))

  pub audit_cut : audit_copy F (cut_copy c) ≡ audit_copy F c
  unfolding audit_copy
  audit_cut =
      partly_cut c (refused_at 10 tree (wrong_entry_of_copy F (cut_copy c)) (refused_at 11 bitfield (wrong_byte_of_copy (cut_copy c)) done))
      ∙ ap₂ (λ (x y : Lowest). partly_judged c (refused_at 10 tree x (refused_at 11 bitfield y done))) entry_found byte_found
