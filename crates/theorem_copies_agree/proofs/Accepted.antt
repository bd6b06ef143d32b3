-- In a copy that its audit accepts every known entry is right, and the Index follows from the data bits: the proof of `CopyShortAgreesForAll`.
-- Assumes nothing.
use Prim.Native.Nat.{ℕ, zero, suc, ◌+◌, ◌-◌, ◌*◌, ◌≤◌, ◌<◌}
use mathlib.Core.Path.{◌≡◌, sym, ap, ap₂, ◌∙◌}
use mathlib.Core.Bool.{Bool, true, cond, not, ◌&&◌, ◌||◌}
use mathlib.Core.List.{List}
use native.Mathlib.Nat.{zero-add, mul_comm}
use native.Mathlib.Omega.{arith}
use borrow.Author.Tests.{leb-true, eqb-true}
use lib.Dec.{leb}
use lib.ListN.{get_or}
use Rattle.answer_types.specs.Verdict.{tree, bitfield, done}
use Rattle.byte_strings.specs.Lists.{run, joined}
use Rattle.byte_strings.proofs.Lists.{length_joined}
use Rattle.byte_strings.specs.Lowest.{Lowest, nowhere}
use Rattle.byte_strings.proofs.Bools.{where_true, both_true}
use Rattle.byte_strings.proofs.Lowest.{never_first, nowhere_right}
use Rattle.tree_index.specs.Tree.{index, block, left_child, right_child, filled, entries}
use Rattle.tree_index.proofs.Index.{depth_index, block_index, left_child_index, right_child_index}
use Rattle.tree_index.proofs.Filled.{filled_below, filled_left, filled_right}
use Rattle.bitfield.specs.Image.{entry, entry_count, entries_for}
use Rattle.bitfield.proofs.Image.{length_entry}
use Rattle.file_format.specs.Sizes.{longest_chunk, used_bitfield}
use Rattle.file_format.specs.Stored.{stored_size}
use Rattle.audit.specs.Audit.{parent_right, hole_right, held_bits, refused_at, byte_right_by, leaf_from}
use Rattle.audit.proofs.Audited.{parent_right_lem, at_must}
use Rattle.lookup.specs.Descent.{Ending, stopped, reached, unknown}
use Rattle.search.specs.Theorems.{IndexFollows}
use Rattle.search.proofs.Answers.{index_of_data}
use Rattle.short_lookup.specs.Theorems.{LengthsRight}
use Rattle.short_lookup.proofs.Accepted.{entries_cut}
use Rattle.copy_checks.specs.Copy.{Copy, known}
use Rattle.copy_checks.proofs.Least.{least_each}
use Rattle.copy_checks.proofs.Steps.{Lent, partly_passed}
use Rattle.copy_checks.specs.Descents.{copy_to_chunk}
use Rattle.copy_audit.specs.Audit.{wrong_unless, both_known, wrong_from, wrong_by_leaf, wrong_by_parent, wrong_by_known, wrong_by_unknown, wrong_by, copy_byte_right}
use Rattle.copy_audit.specs.Audit.{wrong_entry_of_copy, known_bits, wrong_byte_of_copy, audit_copy, leaf_right_from}
use Rattle.copy_audit.proofs.Judged.{unless_right}
use Rattle.theorem_copies_agree.specs.Theorems.{AllKnown, CopyShortAgreesForAll}
use Rattle.theorem_copies_agree.proofs.Agree.{copy_lookups_agree, copy_search_agrees}
use Rattle.file_format.specs.Images.{bitfield_of}

-- ---- none of a row

-- ---- one entry

module _ (F : List ℕ → List ℕ) (c : Copy) where
  leaf_fits : (k : ℕ) → wrong_by_leaf F c k ≡ nowhere → stored_size c.tree (index 0 k) ≤ longest_chunk
  unfolding wrong_by_leaf wrong_from leaf_from
  leaf_fits k e = ended (copy_to_chunk c k) e
    where
      ended : (x : Ending) → wrong_from F c k x ≡ nowhere → stored_size c.tree (index 0 k) ≤ longest_chunk
      ended (stopped i) w = never_first i w
      ended (unknown i) w = never_first (index 0 k) w
      ended (reached j start) w =
          leb-true (stored_size c.tree (index 0 k)) longest_chunk
          (both_true (leb (stored_size c.tree (index 0 k)) longest_chunk) _ (unless_right (leaf_right_from F c k start) (index 0 k) w)).0

  parent_sums : (i : ℕ) → known c (left_child i) ≡ true → known c (right_child i) ≡ true → wrong_by_parent F c i ≡ nowhere
      → stored_size c.tree i ≡ stored_size c.tree (left_child i) + stored_size c.tree (right_child i)
  unfolding wrong_by_parent both_known
  parent_sums i l r w =
      (parent_right_lem F c.tree c.content i
      (where_true (both_known c i) (parent_right F c.tree i) (ap (λ (b : Bool). b && known c (right_child i)) l ∙ r)
      (unless_right (not (both_known c i) || parent_right F c.tree i) i w))
      ).sum

  -- what is asked of an entry, by coordinates
  asked : Bool → Bool → ℕ → ℕ → ℕ → Lowest
  asked f b d k i = cond f (cond b (elim d [ zero ↦ wrong_by_leaf F c k | suc e ↦ wrong_by_parent F c i ]) (wrong_by_unknown F c i)) (wrong_unless (hole_right F c.tree i) i)

  known_leaf : (k : ℕ) → filled c.n (index 0 k) ≡ true → known c (index 0 k) ≡ true → wrong_by F c (index 0 k) ≡ wrong_by_leaf F c k
  unfolding wrong_by wrong_by_known asked
  known_leaf k f b = (λ j. asked (f j) (b j) (depth_index 0 k j) (block_index 0 k j) (index 0 k))

  known_parent : (d k : ℕ) → filled c.n (index (suc d) k) ≡ true → known c (index (suc d) k) ≡ true
      → wrong_by F c (index (suc d) k) ≡ wrong_by_parent F c (index (suc d) k)
  unfolding wrong_by wrong_by_known asked
  known_parent d k f b = (λ j. asked (f j) (b j) (depth_index (suc d) k j) (block (index (suc d) k)) (index (suc d) k))

  -- ---- all entries

  module _ (none : wrong_entry_of_copy F c ≡ nowhere) where
    entry_right_lem : (i : ℕ) → filled c.n i ≡ true → wrong_by F c i ≡ nowhere
    unfolding wrong_entry_of_copy
    entry_right_lem i f =
        ap (wrong_by F c) (sym (zero-add i)) ∙ least_each (wrong_by F c) 0 (entries c.n) none i (filled_below c.n i f)

    lengths_right : AllKnown c → LengthsRight c.tree c.n
    unfolding AllKnown LengthsRight
    lengths_right all zero k h =
        leaf_fits k (sym (known_leaf k h (all (index 0 k) (filled_below c.n (index 0 k) h) h)) ∙ entry_right_lem (index 0 k) h)
    lengths_right all (suc d) k h =
        let i : ℕ = index (suc d) k in
        let l : filled c.n (index d (2 * k)) ≡ true = filled_left c.n d k h in
        let r : filled c.n (index d (2 * k + 1)) ≡ true = filled_right c.n d k h in
        parent_sums i
        (ap (known c) (left_child_index d k) ∙ all (index d (2 * k)) (filled_below c.n (index d (2 * k)) l) l)
        (ap (known c) (right_child_index d k) ∙ all (index d (2 * k + 1)) (filled_below c.n (index d (2 * k + 1)) r) r)
        (sym (known_parent d k h (all i (filled_below c.n i h) h)) ∙ entry_right_lem i h)
        ∙ ap₂ (λ (x y : ℕ). stored_size c.tree x + stored_size c.tree y) (left_child_index d k) (right_child_index d k)

-- ---- the Index

module _ (c : Copy) (lent : Lent c) (none : wrong_byte_of_copy c ≡ nowhere) where
  abbrev held : ℕ → Bool
  held = held_bits c.bitfield c.n

  abbrev told : ℕ → Bool
  told = known_bits c.bitfield c.n

  byte_right_lem : (b : ℕ) → 32 ≤ b → b < used_bitfield c.n → get_or c.bitfield b 0 ≡ get_or (bitfield_of held told c.n) b 0
  unfolding wrong_byte_of_copy byte_right_by
  byte_right_lem b l h =
      let j : ℕ = b - 32 in
      let q : b ≡ 32 + j = omega arith in
      eqb-true (get_or c.bitfield b 0) (get_or (bitfield_of held told c.n) b 0)
      (ap (copy_byte_right c.bitfield c.n) q ∙ nowhere_right (copy_byte_right c.bitfield c.n) 32 (used_bitfield c.n - 32) none j (omega arith))

  follows : IndexFollows c.bitfield c.n
  unfolding bitfield_of entries_for used_bitfield
  follows =
      let es : List ℕ = joined (run (entry held told) 0 (entry_count c.n)) in
      index_of_data c.bitfield c.n held told
      (entries_cut c.bitfield es (3328 * entry_count c.n) lent.bitfield
      (length_joined (entry held told) 3328 (length_entry held told) 0 (entry_count c.n) ∙ mul_comm (entry_count c.n) 3328) byte_right_lem)

pub copy_short_agrees : CopyShortAgreesForAll
unfolding audit_copy
copy_short_agrees F c e =
    let p = partly_passed c _ e in
    let a = at_must 10 tree (wrong_entry_of_copy F c) (refused_at 11 bitfield (wrong_byte_of_copy c) done) p.1.1 in
    let b = at_must 11 bitfield (wrong_byte_of_copy c) done a.1 in
    record {
      lookups = λ all. copy_lookups_agree c all (lengths_right F c a.0 all);
      search = copy_search_agrees c (follows c p.0 b.0);
    }
