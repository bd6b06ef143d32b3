-- The audit and the comparing walk get the same of registers and of the same cut to their used sizes.
-- Assumes nothing.
use Prim.Native.Nat.{ℕ, zero, suc, ◌+◌, ◌-◌, ◌*◌, ◌^◌, ◌≤◌, ◌<◌}
use mathlib.Core.Path.{◌≡◌, refl, sym, ap, ◌∙◌, subst}
use mathlib.Core.Bool.{Bool, true, false, cond, not, ◌&&◌}
use mathlib.Core.List.{List, ◌++◌}
use native.Mathlib.Omega.{arith}
use borrow.Author.Tests.{leb-true, ltb-true}
use lib.Dec.{leb, ltb, eqb}
use lib.ListN.{take, get_or}
use lib.Seq.{get_or-take}
use Rattle.answer_types.specs.Verdict.{Verdict, tree, bitfield, done, refused}
use Rattle.byte_strings.specs.Lists.{part, same_list, all_zero, zeros}
use Rattle.byte_strings.proofs.Lists.{same_eq, part_take}
use Rattle.tree_index.specs.Tree.{index, depth, block, left_child, right_child, filled, entries}
use Rattle.tree_index.proofs.Index.{by_coordinates}
use Rattle.tree_index.proofs.Filled.{filled_end, filled_below, filled_left, filled_right, children_below}
use Rattle.bitfield.specs.Release.{stored_held}
use Rattle.bitfield.proofs.Append.{entries_ext}
use Rattle.file_format.specs.Headers.{bitfield_header}
use Rattle.file_format.specs.Sizes.{longest_chunk, used_tree, used_bitfield}
use Rattle.file_format.specs.Messages.{leaf_message, parent_message}
use Rattle.file_format.specs.Stored.{stored_hash, stored_size, stored_start, stored_chunk, stored_message, stored_root_message}
use Rattle.file_format.specs.Belongs.{Register}
use Rattle.file_format.proofs.OfImage.{stored_leaf_lem, stored_parent, overs}
use Rattle.checks.specs.Checks.{judged}
use Rattle.audit.specs.Audit.{lowest, parent_right, hole_right, entry_right, wrong_entry, held_bits, wrong_byte, refused_at, images_verdict, audit, Accepted, byte_right}
use Rattle.audit.proofs.Audited.{accepted_audited, leaf_says_lem, even_entry, odd_entry, entry_right_hole}
use Rattle.audit.proofs.Search.{lowest_agree}
use Rattle.compare.specs.Walk.{Comparison, roots_differ, at_roots, found, collides, walk, unless_refused, missing, whole_verdict, compare}
use Rattle.compare.proofs.Local.{cond_same}
use Rattle.compare.proofs.RootMessages.{same_count}
use Rattle.compare.proofs.Walked.{rooted}
use Rattle.compare.proofs.Whole.{whole_accepted}
use Rattle.theorem_used_bytes.proofs.Cut.{cut, held_cut, entry_cut, hash_cut, size_cut, start_cut, root_message_cut, checks_cut}
use Rattle.file_format.specs.Images.{bitfield_image, bitfield_of}
use Rattle.audit.specs.Audit.{byte_right_by, leaf_from, leaf_right}

-- ---- a chunk within the data

-- what stands behind a test is read only where that is true
pub and_same : (b x y : Bool) → (b ≡ true → x ≡ y) → (b && x) ≡ (b && y)
and_same true x y h = h refl
and_same false x y h = refl

module _ (t bits content : List ℕ) (n size : ℕ) where
  abbrev u : List ℕ
  u = take (used_tree n) t

  abbrev v : List ℕ
  v = take size content

  abbrev w : List ℕ
  w = take (used_bitfield n) bits

  leaf_size_cut : (k : ℕ) → k < n → stored_size u (2 * k) ≡ stored_size t (2 * k)
  unfolding entries
  leaf_size_cut k h = size_cut t n (2 * k) (omega arith)

  leaf_start_cut : (k : ℕ) → k < n → stored_start u k ≡ stored_start t k
  leaf_start_cut k h = start_cut t n k (omega arith)

  chunk_cut : (k : ℕ) → k < n → stored_start t k + stored_size t (2 * k) ≤ size → stored_chunk u v k ≡ stored_chunk t content k
  unfolding stored_chunk
  chunk_cut k h l =
      (λ i. part v (leaf_start_cut k h i) (leaf_size_cut k h i)) ∙ part_take content size (stored_start t k) (stored_size t (2 * k)) l

  pub bits_cut : (k : ℕ) → held_bits w n k ≡ held_bits bits n k
  unfolding held_bits
  bits_cut k = and_same (ltb k n) (stored_held w k) (stored_held bits k) (λ e. held_cut bits n k (ltb-true k n e))

  -- ---- the entries

  module _ (F : List ℕ → List ℕ) where
    -- the last test of a leaf, of these bytes
    abbrev last_test_lem : Bool → List ℕ → List ℕ → Bool
    last_test_lem held hash c = cond held (same_list hash (F (leaf_message c))) (all_zero c)

    leaf_cut : (held : Bool) (k : ℕ) → k < n → leaf_right F u v size held k ≡ leaf_right F t content size held k
    unfolding leaf_from stored_chunk entries
    leaf_cut held k h =
        let z = leaf_size_cut k h in
        let s = leaf_start_cut k h in
        let g = hash_cut t n (2 * k) (omega arith) in
        (λ i. leb (z i) longest_chunk && (leb (s i + z i) size && last_test_lem held (g i) (stored_chunk u v k)))
        ∙ ap (λ (b : Bool). leb (stored_size t (2 * k)) longest_chunk && b)
        (and_same (leb (stored_start t k + stored_size t (2 * k)) size) (last_test_lem held (stored_hash t (2 * k)) (stored_chunk u v k))
        (last_test_lem held (stored_hash t (2 * k)) (stored_chunk t content k))
        (λ e. ap (last_test_lem held (stored_hash t (2 * k))) (chunk_cut k h (leb-true (stored_start t k + stored_size t (2 * k)) size e))))

    pub parent_cut : (i : ℕ) → i < entries n → 0 < depth i → filled n i ≡ true → parent_right F u i ≡ parent_right F t i
    unfolding parent_right
    parent_cut i h p f =
        let c = children_below n i p f in
        let z = size_cut t n i h in
        let a = size_cut t n (left_child i) c.0 in
        let b = size_cut t n (right_child i) c.1 in
        let g = hash_cut t n i h in
        let x = hash_cut t n (left_child i) c.0 in
        let y = hash_cut t n (right_child i) c.1 in
        λ j. eqb (z j) (a j + b j) && same_list (g j) (F (parent_message (a j + b j) (x j) (y j)))

    pub hole_cut : (i : ℕ) → i < entries n → hole_right F u i ≡ hole_right F t i
    unfolding hole_right
    hole_cut i h = ap (λ (l : List ℕ). same_list l (zeros 40)) (entry_cut t n i h)

    pub leaf_below : (i : ℕ) → depth i ≡ zero → filled n i ≡ true → block i < n
    unfolding filled
    leaf_below i z f = omega (arith, leb-true ((block i + 1) * 2 ^ depth i) n f, ap (λ (d : ℕ). (block i + 1) * 2 ^ d) z)

    pub right_cut : (i : ℕ) → i < entries n → entry_right F u w v n size i ≡ entry_right F t bits content n size i
    right_cut i h = go (filled n i) refl
      where
        by_depth : (d : ℕ) → depth i ≡ d → filled n i ≡ true → entry_right F u w v n size i ≡ entry_right F t bits content n size i
        by_depth zero z f =
            even_entry F u v w n size i z f ∙ leaf_cut (stored_held w (block i)) (block i) (leaf_below i z f)
            ∙ ap (λ (b : Bool). leaf_right F t content size b (block i)) (held_cut bits n (block i) (leaf_below i z f)) ∙ sym (even_entry F t content bits n size i z f)
        by_depth (suc d) z f =
            odd_entry F u v w n size i d z f ∙ parent_cut i h (omega arith) f ∙ sym (odd_entry F t content bits n size i d z f)

        go : (b : Bool) → filled n i ≡ b → entry_right F u w v n size i ≡ entry_right F t bits content n size i
        go true f = by_depth (depth i) refl f
        go false f = entry_right_hole F u v w n size i f ∙ hole_cut i h ∙ sym (entry_right_hole F t content bits n size i f)

-- ---- the audit

module _ (F : List ℕ → List ℕ) (r : Register) where
  entry_found : wrong_entry F (cut r) ≡ wrong_entry F r
  unfolding wrong_entry
  entry_found =
      lowest_agree (entry_right F (cut r).tree (cut r).bitfield (cut r).content r.n r.size) (entry_right F r.tree r.bitfield r.content r.n r.size) 0 (entries r.n)
      (λ j p q before. right_cut r.tree r.bitfield r.content r.n r.size F j (omega arith))

  same_image : bitfield_image (held_bits (cut r).bitfield r.n) r.n ≡ bitfield_image (held_bits r.bitfield r.n) r.n
  unfolding bitfield_of
  same_image =
      ap (λ (l : List ℕ). bitfield_header ++ l)
      (entries_ext (held_bits (cut r).bitfield r.n) (held_bits r.bitfield r.n) r.n (bits_cut r.tree r.bitfield r.content r.n r.size))

  pub byte_cut : (j : ℕ) → j < used_bitfield r.n → byte_right (cut r).bitfield r.n j ≡ byte_right r.bitfield r.n j
  unfolding byte_right_by
  byte_cut j h =
      ap (λ (l : List ℕ). eqb (get_or (cut r).bitfield j 0) (get_or l j 0)) same_image
      ∙ ap (λ (x : ℕ). eqb x (get_or (bitfield_image (held_bits r.bitfield r.n) r.n) j 0)) (get_or-take (used_bitfield r.n) r.bitfield j 0 h)

  byte_found : wrong_byte (cut r) ≡ wrong_byte r
  unfolding wrong_byte
  byte_found =
      lowest_agree (byte_right (cut r).bitfield r.n) (byte_right r.bitfield r.n) 32 (used_bitfield r.n - 32) (λ j p q before. byte_cut j (omega arith))

  images_cut : images_verdict F (cut r) ≡ images_verdict F r
  unfolding images_verdict
  images_cut = λ i. refused_at 10 tree (entry_found i) (refused_at 11 bitfield (byte_found i) done)

  pub audit_cut : audit F (cut r) ≡ audit F r
  unfolding audit
  audit_cut = λ i. judged (checks_cut r i) (images_cut i)

  pub missing_cut : missing (cut r) ≡ missing r
  unfolding missing
  missing_cut =
      lowest_agree (stored_held (cut r).bitfield) (stored_held r.bitfield) 0 r.n
      (λ k p q before. held_cut r.bitfield r.n k (omega arith))

  pub whole_cut : whole_verdict F (cut r) ≡ whole_verdict F r
  unfolding whole_verdict
  whole_cut = λ i. judged (checks_cut r i) (refused_at 18 (λ k. tree (index 0 k)) (missing_cut i) (images_cut i))

-- ---- the comparing walk

-- the messages of an accepted register
module _ (F : List ℕ → List ℕ) (r : Register) (e : Accepted F r) where
  leaf_inside : (k : ℕ) → filled r.n (index zero k) ≡ true → stored_start r.tree k + stored_size r.tree (2 * k) ≤ r.size
  leaf_inside k f =
      (leaf_says_lem F r.tree r.content r.bitfield r.n r.size k f ((accepted_audited F r e).entry (index zero k) (filled_below r.n (index zero k) f))).inside

  message_cut : (i : ℕ) → filled r.n i ≡ true → stored_message (cut r).tree (cut r).content i ≡ stored_message r.tree r.content i
  message_cut =
      by_coordinates (λ i. filled r.n i ≡ true → stored_message (cut r).tree (cut r).content i ≡ stored_message r.tree r.content i) go
    where
      go : (d k : ℕ) → filled r.n (index d k) ≡ true
          → stored_message (cut r).tree (cut r).content (index d k) ≡ stored_message r.tree r.content (index d k)
      go zero k f =
          stored_leaf_lem (cut r).tree (cut r).content k
          ∙ ap leaf_message (chunk_cut r.tree r.bitfield r.content r.n r.size k (omega (arith, filled_end r.n zero k f)) (leaf_inside k f))
          ∙ sym (stored_leaf_lem r.tree r.content k)
      go (suc d) k f =
          let a = filled_below r.n (index d (2 * k)) (filled_left r.n d k f) in
          let b = filled_below r.n (index d (2 * k + 1)) (filled_right r.n d k f) in
          stored_parent (cut r).tree (cut r).content d k
          ∙ overs (size_cut r.tree r.n (index d (2 * k)) a) (size_cut r.tree r.n (index d (2 * k + 1)) b)
          (hash_cut r.tree r.n (index d (2 * k)) a) (hash_cut r.tree r.n (index d (2 * k + 1)) b)
          ∙ sym (stored_parent r.tree r.content d k)

module _ (F : List ℕ → List ℕ) (a b : Register) where
  abbrev root_a : List ℕ
  root_a = stored_root_message a.tree a.n

  abbrev root_b : List ℕ
  root_b = stored_root_message b.tree b.n

  -- no collision at an index, by what two registers store
  abbrev free : Register → Register → ℕ → Bool
  free p q i =
      not
      (filled a.n i
      && collides (stored_message p.tree p.content i) (stored_message q.tree q.content i) (stored_hash p.tree i) (stored_hash q.tree i))

  -- the walk over two root messages and the entries that two registers store
  abbrev over : List ℕ → List ℕ → Register → Register → Comparison
  over x y p q = cond (same_list (F x) (F y)) (cond (same_list x y) (found (lowest (free p q) 0 (entries a.n))) at_roots) roots_differ

  module _ (d : Accepted F a) (e : Accepted F b) where
    free_cut : a.n ≡ b.n → (i : ℕ) → i < entries a.n → free (cut a) (cut b) i ≡ free a b i
    free_cut same i h =
        ap not
        (and_same (filled a.n i)
        (collides (stored_message (cut a).tree (cut a).content i) (stored_message (cut b).tree (cut b).content i) (stored_hash (cut a).tree i)
        (stored_hash (cut b).tree i))
        (collides (stored_message a.tree a.content i) (stored_message b.tree b.content i) (stored_hash a.tree i) (stored_hash b.tree i))
        (λ f j. collides (message_cut F a d i f j) (message_cut F b e i (subst (λ (m : ℕ). filled m i ≡ true) same f) j) (hash_cut a.tree a.n i h j)
        (hash_cut b.tree b.n i (subst (λ (m : ℕ). i < entries m) same h) j)))

    over_cut : over root_a root_b (cut a) (cut b) ≡ over root_a root_b a b
    over_cut =
        ap (λ (w : Comparison). cond (same_list (F root_a) (F root_b)) w roots_differ)
        (cond_same (same_list root_a root_b) (found (lowest (free (cut a) (cut b)) 0 (entries a.n))) (found (lowest (free a b) 0 (entries a.n))) at_roots
        (λ s.
        let same : a.n ≡ b.n = same_count a.tree b.tree a.n b.n (rooted F a d) (rooted F b e) (same_eq root_a root_b s) in
        ap found (lowest_agree (free (cut a) (cut b)) (free a b) 0 (entries a.n) (λ j p q before. free_cut same j (omega arith)))))

  pub compare_cut : compare F (cut a) (cut b) ≡ compare F a b
  unfolding compare walk
  compare_cut =
      (λ i. unless_refused (whole_cut F a i) (whole_cut F b i) (over (root_message_cut a.tree a.n i) (root_message_cut b.tree b.n i) (cut a) (cut b)))
      ∙ go (whole_verdict F a) refl (whole_verdict F b) refl
    where
      go : (v : Verdict) → whole_verdict F a ≡ v → (w : Verdict) → whole_verdict F b ≡ w
          → unless_refused v w (over root_a root_b (cut a) (cut b)) ≡ unless_refused v w (over root_a root_b a b)
      go (refused m at) d w e = refl
      go done d (refused m at) e = refl
      go done d done e = over_cut (whole_accepted F a d) (whole_accepted F b e)
