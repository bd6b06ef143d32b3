-- The parts get the same of registers and of the same cut to their used sizes. Assumes nothing.
use Prim.Native.Nat.{ℕ, zero, suc, ◌+◌, ◌*◌, ◌<◌}
use mathlib.Core.Path.{◌≡◌, refl, sym, ap, ◌∙◌, subst}
use mathlib.Core.Bool.{Bool, true, false, cond, not}
use mathlib.Core.List.{List}
use native.Mathlib.Omega.{arith}
use borrow.Author.Tests.{eqb-true}
use lib.Dec.{eqb}
use lib.ListN.{take}
use Rattle.answer_types.specs.Verdict.{tree, bitfield, done}
use Rattle.byte_strings.specs.Lists.{part}
use Rattle.byte_strings.proofs.Lists.{part_take}
use Rattle.tree_index.specs.Tree.{index, filled, entries}
use Rattle.tree_index.proofs.Index.{by_coordinates}
use Rattle.tree_index.proofs.Filled.{filled_end, filled_below, filled_left, filled_right}
use Rattle.bitfield.specs.Image.{entry_count}
use Rattle.file_format.specs.Sizes.{used_tree, used_bitfield}
use Rattle.file_format.specs.Messages.{leaf_message}
use Rattle.file_format.specs.Stored.{stored_hash, stored_chunk, stored_message}
use Rattle.file_format.specs.Belongs.{Register}
use Rattle.file_format.proofs.OfImage.{stored_leaf_lem, stored_parent, overs}
use Rattle.checks.specs.Checks.{judged}
use Rattle.audit.specs.Audit.{lowest, entry_right, byte_right, refused_at}
use Rattle.audit.proofs.Search.{lowest_agree}
use Rattle.compare.specs.Walk.{equal, found, collides, at_top, unless_refused, held_then}
use Rattle.compare.specs.Inner.{collides_at}
use Rattle.parts_audit.specs.Range.{within}
use Rattle.parts_audit.specs.Part.{tree_part, bitfield_part}
use Rattle.parts_compare.specs.Part.{walked_entries, data_of, roots_part, walk_part}
use Rattle.theorem_used_bytes.specs.Parts.{PartsUsed}
use Rattle.theorem_used_bytes.proofs.Cut.{cut, same_cut, hash_cut, size_cut, start_cut, root_message_cut, checks_cut}
use Rattle.theorem_used_bytes.proofs.Audits.{and_same, right_cut, byte_cut, missing_cut}
use Rattle.theorem_used_bytes.proofs.Reading.{by_cut}
use Rattle.theorem_used_bytes.proofs.Ranges.{index_within, byte_within_lem}

-- ---- of one register

module _ (F : List ℕ → List ℕ) (r : Register) (a b : ℕ) where
  tree_found :
      lowest (entry_right F (cut r).tree (cut r).bitfield (cut r).content r.n r.size) a (within (entries r.n) a b)
      ≡ lowest (entry_right F r.tree r.bitfield r.content r.n r.size) a (within (entries r.n) a b)
  tree_found =
      lowest_agree (entry_right F (cut r).tree (cut r).bitfield (cut r).content r.n r.size) (entry_right F r.tree r.bitfield r.content r.n r.size) a
      (within (entries r.n) a b)
      (λ j p q before. right_cut r.tree r.bitfield r.content r.n r.size F j (index_within (entries r.n) a b j p q))

  tree_part_cut : tree_part F (cut r) a b ≡ tree_part F r a b
  unfolding tree_part
  tree_part_cut = λ i. judged (checks_cut r i) (refused_at 10 tree (tree_found i) done)

  in_bitfield : (j : ℕ) → j < 32 + 3328 * entry_count r.n → j < used_bitfield r.n
  unfolding used_bitfield
  in_bitfield j h = h

  byte_found :
      lowest (byte_right (cut r).bitfield r.n) (32 + 3328 * a) (3328 * within (entry_count r.n) a b)
      ≡ lowest (byte_right r.bitfield r.n) (32 + 3328 * a) (3328 * within (entry_count r.n) a b)
  byte_found =
      lowest_agree (byte_right (cut r).bitfield r.n) (byte_right r.bitfield r.n) (32 + 3328 * a) (3328 * within (entry_count r.n) a b)
      (λ j p q before. byte_cut F r j (in_bitfield j (byte_within_lem (entry_count r.n) a b j p q)))

  bitfield_part_cut : bitfield_part (cut r) a b ≡ bitfield_part r a b
  unfolding bitfield_part
  bitfield_part_cut = λ i. judged (checks_cut r i) (refused_at 11 bitfield (byte_found i) done)

held_part_cut : (F : List ℕ → List ℕ) (r : Register) → held_then (cut r) done ≡ held_then r done
held_part_cut F r = λ i. judged (checks_cut r i) (refused_at 18 (λ k. tree (index 0 k)) (missing_cut F r i) done)

-- ---- of two

roots_part_cut : (F : List ℕ → List ℕ) (a b : Register) → roots_part F (cut a) (cut b) ≡ roots_part F a b
unfolding roots_part
roots_part_cut F a b =
    let x = root_message_cut a.tree a.n in
    let y = root_message_cut b.tree b.n in
    λ i. unless_refused (judged (checks_cut a i) done) (judged (checks_cut b i) done) (at_top F (x i) (y i) equal)

-- a message of the same data
module _ (t d : List ℕ) (n : ℕ) where
  abbrev u : List ℕ
  u = take (used_tree n) t

  chunk_same : (k : ℕ) → k < n → stored_chunk u d k ≡ stored_chunk t d k
  unfolding stored_chunk entries
  chunk_same k h = let s = start_cut t n k (omega arith) in let z = size_cut t n (2 * k) (omega arith) in λ i. part d (s i) (z i)

  message_same : (i : ℕ) → filled n i ≡ true → stored_message u d i ≡ stored_message t d i
  message_same = by_coordinates (λ i. filled n i ≡ true → stored_message u d i ≡ stored_message t d i) go
    where
      go : (e k : ℕ) → filled n (index e k) ≡ true → stored_message u d (index e k) ≡ stored_message t d (index e k)
      go zero k f = stored_leaf_lem u d k ∙ ap leaf_message (chunk_same k (omega (arith, filled_end n zero k f))) ∙ sym (stored_leaf_lem t d k)
      go (suc e) k f =
          let a = filled_below n (index e (2 * k)) (filled_left n e k f) in
          let b = filled_below n (index e (2 * k + 1)) (filled_right n e k f) in
          stored_parent u d e k
          ∙ overs (size_cut t n (index e (2 * k)) a) (size_cut t n (index e (2 * k + 1)) b) (hash_cut t n (index e (2 * k)) a) (hash_cut t n (index e (2 * k + 1)) b)
          ∙ sym (stored_parent t d e k)

data_cut : (r : Register) → data_of (cut r) ≡ data_of r
unfolding part
data_cut r = part_take r.content r.size 0 r.size (omega arith)

module _ (a b : Register) where
  collides_cut : a.n ≡ b.n → (k : ℕ) → k < entries a.n
      → collides_at (cut a).tree (data_of (cut a)) (cut b).tree (data_of (cut b)) a.n k ≡ collides_at a.tree (data_of a) b.tree (data_of b) a.n k
  unfolding collides_at
  collides_cut same k h =
      (λ i. collides_at (cut a).tree (data_cut a i) (cut b).tree (data_cut b i) a.n k)
      ∙ and_same (filled a.n k)
      (collides (stored_message (cut a).tree (data_of a) k) (stored_message (cut b).tree (data_of b) k) (stored_hash (cut a).tree k) (stored_hash (cut b).tree k))
      (collides (stored_message a.tree (data_of a) k) (stored_message b.tree (data_of b) k) (stored_hash a.tree k) (stored_hash b.tree k))
      (λ f i. collides (message_same a.tree (data_of a) a.n k f i) (message_same b.tree (data_of b) b.n k (subst (λ (m : ℕ). filled m k ≡ true) same f) i)
      (hash_cut a.tree a.n k h i) (hash_cut b.tree b.n k (subst (λ (m : ℕ). k < entries m) same h) i))

  -- registers with different numbers of chunks are not walked
  walked_below : (k : ℕ) → k < walked_entries a b → (a.n ≡ b.n) × (k < entries a.n)
  walked_below k h = go (eqb a.n b.n) refl h
    where
      go : (x : Bool) → eqb a.n b.n ≡ x → k < cond x (entries a.n) 0 → (a.n ≡ b.n) × (k < entries a.n)
      go true e l = (eqb-true a.n b.n e, l)
      go false e l = absurd (omega arith)

  free : Register → Register → ℕ → Bool
  free p q k = not (collides_at p.tree (data_of p) q.tree (data_of q) a.n k)

  walk_part_cut : (i j : ℕ) → walk_part (cut a) (cut b) i j ≡ walk_part a b i j
  unfolding walk_part free
  walk_part_cut i j =
      let e = lowest_agree (free (cut a) (cut b)) (free a b) i (within (walked_entries a b) i j)
      (λ k p q before. let w = walked_below k (index_within (walked_entries a b) i j k p q) in ap not (collides_cut w.0 k w.1)) in
      λ x. unless_refused (judged (checks_cut a x) done) (judged (checks_cut b x) done) (found (e x))

pub parts_used : PartsUsed
parts_used =
    record {
      one = λ F a b h.
          record {
            tree = λ i j. by_cut (λ r. tree_part F r i j) (λ r. tree_part_cut F r i j) a b h;
            bitfield = λ i j. by_cut (λ r. bitfield_part r i j) (λ r. bitfield_part_cut F r i j) a b h;
            held = by_cut (λ r. held_then r done) (held_part_cut F) a b h;
          };
      roots = λ F a b c d g h. sym (roots_part_cut F a c) ∙ (λ i. roots_part F (same_cut a b g i) (same_cut c d h i)) ∙ roots_part_cut F b d;
      walk = λ a b c d g h i j. sym (walk_part_cut a c i j) ∙ (λ x. walk_part (same_cut a b g x) (same_cut c d h x) i j) ∙ walk_part_cut b d i j;
    }
