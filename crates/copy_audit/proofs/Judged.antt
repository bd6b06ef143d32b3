-- The entries of a copy as the code judges them, one by one. Assumes nothing.
use Prim.Native.Nat.{ℕ, suc, ◌+◌, ◌-◌, ◌*◌, ◌/◌, ◌%◌, ◌≤◌, ◌<◌}
use mathlib.Core.Path.{◌≡◌, refl, sym, ap, ap₂, ◌∙◌, subst, subst₂}
use mathlib.Core.Bool.{Bool, true, false, cond, not, ◌&&◌, ◌||◌}
use mathlib.Core.List.{List}
use native.Mathlib.Omega.{arith}
use lib.ListN.{length}
use Rattle.byte_strings.specs.Lists.{run}
use Rattle.byte_strings.proofs.Lists.{length_run, get_or_run}
use Rattle.byte_strings.specs.Lowest.{Lowest, nowhere, first}
use Rattle.byte_strings.proofs.Lowest.{never_first}
use Rattle.tree_index.specs.Tree.{index, depth, block, left_child, right_child, filled, entries}
use Rattle.tree_index.proofs.Index.{index_leaf}
use Rattle.tree_index.proofs.Words.{leaf_block}
use Rattle.tree_index.proofs.Filled.{filled_left_child, filled_right_child}
use Rattle.bitfield.specs.Image.{entry_count}
use Rattle.bitfield.specs.Append.{bits_place}
use Rattle.bitfield.specs.Release.{stored_held}
use Rattle.bitfield.specs.Known.{stored_known}
use Rattle.file_format.specs.Sizes.{used_bitfield}
use Rattle.file_format.proofs.Nodes.{by_depth_lem}
use Rattle.checks.specs.Capped.{most, capped}
use Rattle.audit.specs.Audit.{parent_right, hole_right, leaf_from}
use Rattle.audit.specs.BitfieldEntries.{BitsIn}
use Rattle.audit.specs.TreeWalk.{FilesIn, AtLeaf}
use Rattle.audit.proofs.Bytes.{tree_bit}
use Rattle.audit.proofs.Capped.{capped_leaf}
use Rattle.audit.proofs.Entries.{entry_in_lem, even_depth, odd_depth, parent_in}
use Rattle.lookup.specs.Descent.{Ending, stopped, reached, unknown}
use Rattle.lookup.specs.Capped.{capped_ending}
use Rattle.copy_checks.specs.Copy.{Copy}
use Rattle.copy_checks.specs.Descents.{copy_to_chunk}
use Rattle.copy_checks.specs.Least.{lower_of, least_of}
use Rattle.copy_checks.proofs.Least.{Lowering, lowering_none, lowering_next, lowering_all}
use Rattle.copy_audit.specs.Audit.{wrong_unless, held_leaf, both_known, wrong_from, wrong_by_leaf, wrong_by_parent, wrong_by_known, wrong_by_unknown, wrong_by, wrong_entry_of_copy}
use Rattle.copy_audit.specs.Inner.{AtNode, AtFamily}
use Rattle.copy_audit.specs.Audit.{leaf_right_from}

-- what a test finds wrong
pub unless_right : (b : Bool) (i : ℕ) → wrong_unless b i ≡ nowhere → b ≡ true
unless_right true i e = refl
unless_right false i e = never_first i e

pub right_unless : (b : Bool) (i : ℕ) → b ≡ true → wrong_unless b i ≡ nowhere
right_unless b i e = ap (λ (x : Bool). wrong_unless x i) e

-- ---- where things lie

pub chunk_bit : {bits : List ℕ} {n : ℕ} (k : ℕ) → BitsIn bits n → k < n → bits_place (k / 8192 + 1) ≤ length bits
unfolding bits_place used_bitfield entry_count
chunk_bit k b h = omega (arith, b.inside)

-- an even entry is the leaf of one of n chunks
pub leaf_chunk : (n i : ℕ) {k : ℕ} → i < entries n → i % 2 ≡ 0 → k ≡ block i → k < n
unfolding entries
leaf_chunk n i {k} h e q = let b : k ≡ i / 2 = q ∙ sym (leaf_block i e) in omega arith

module _ {tree bits content : List ℕ} {n size : ℕ} (p : FilesIn tree bits content n size) where
  pub node_at_lem : {i : ℕ} → i < entries n → AtNode bits n i
  node_at_lem h = record { field = p.field; entry = h }

  pub family_at : {i : ℕ} → (i % 2 ≡ 0 → ⊥) → filled n i ≡ true → AtFamily tree bits i
  family_at {i} o f =
      record {
        entries = parent_in p.nodes o f;
        left = tree_bit bits n (left_child i) p.field (filled_left_child n i (odd_depth i o) f);
        right = tree_bit bits n (right_child i) p.field (filled_right_child n i (odd_depth i o) f);
      }

  pub leaf_at : {k : ℕ} → k < n → AtLeaf tree content size k
  unfolding entries
  leaf_at h = record { entry = entry_in_lem p.nodes (omega arith); bytes = p.bytes }

-- ---- the tests

pub held_even : (bits : List ℕ) (i : ℕ) {k : ℕ} {r : Bool} → i % 2 ≡ 0 → k ≡ block i → r ≡ stored_held bits k → r ≡ held_leaf bits i
unfolding held_leaf
held_even bits i h e q =
    q ∙ ap (stored_held bits) e ∙ sym (ap (λ (d : ℕ). by_depth_lem d (stored_held bits (block i)) false) (even_depth i h))

pub held_odd : (bits : List ℕ) (i : ℕ) → (i % 2 ≡ 0 → ⊥) → false ≡ held_leaf bits i
unfolding held_leaf
held_odd bits i h =
    let e : depth i ≡ suc (depth i - 1) = omega (arith, odd_depth i h) in
    sym (ap (λ (d : ℕ). by_depth_lem d (stored_held bits (block i)) false) e)

-- a test that is not needed, and one that decides
pub left_unknown : (a b r : Bool) → a ≡ false → true ≡ (not (a && b) || r)
left_unknown false b r e = refl
left_unknown true b r e = let z : ◌≡◌ {A = ℕ} 0 1 = cc in absurd (omega arith)

pub right_unknown : (a b r : Bool) → a ≡ true → b ≡ false → true ≡ (not (a && b) || r)
right_unknown true false r e f = refl
right_unknown false b r e f = let z : ◌≡◌ {A = ℕ} 0 1 = cc in absurd (omega arith)
right_unknown true true r e f = let z : ◌≡◌ {A = ℕ} 0 1 = cc in absurd (omega arith)

pub both_known_lem : (a b r s : Bool) → a ≡ true → b ≡ true → s ≡ r → s ≡ (not (a && b) || r)
both_known_lem true true r s e f q = q
both_known_lem false b r s e f q = let z : ◌≡◌ {A = ℕ} 0 1 = cc in absurd (omega arith)
both_known_lem true false r s e f q = let z : ◌≡◌ {A = ℕ} 0 1 = cc in absurd (omega arith)

-- ---- a known leaf

module _ (F : List ℕ → List ℕ) (c : Copy) (k : ℕ) where
  -- the test of a leaf at the index i
  abbrev leaf_by_lem : ℕ → ℕ → Bool
  leaf_by_lem start i = leaf_from F c.tree c.content c.size (stored_held c.bitfield k) i start

  -- as the copy's definition and the register's say it
  own_test : (start : ℕ) → leaf_right_from F c k start ≡ leaf_by_lem start (2 * k)
  own_test start = ap (leaf_by_lem start) (index_leaf k)

  -- what is found wrong by an ending told with a capped start
  told : c.size < most → (e : Ending) → wrong_from F c k (capped_ending e) ≡ wrong_from F c k e
  unfolding wrong_from capped_ending
  told h (stopped i) = refl
  told h (unknown i) = refl
  told h (reached j start) =
      ap (λ (r : Bool). wrong_unless r (index 0 k))
      (own_test (capped start) ∙ capped_leaf F c.tree c.content c.size (stored_held c.bitfield k) k start h ∙ sym (own_test start))

  by_ending : c.size < most → (e : Ending) → e ≡ capped_ending (copy_to_chunk c k) → wrong_from F c k e ≡ wrong_by_leaf F c k
  unfolding wrong_by_leaf
  by_ending h e q = ap (wrong_from F c k) q ∙ told h (copy_to_chunk c k)

  pub leaf_unknown : c.size < most → {j i : ℕ} → unknown j ≡ capped_ending (copy_to_chunk c k) → i ≡ index 0 k → first i ≡ wrong_by_leaf F c k
  unfolding wrong_from
  leaf_unknown h {j} e q = ap first q ∙ by_ending h (unknown j) e

  pub leaf_stopped : c.size < most → {i : ℕ} → stopped i ≡ capped_ending (copy_to_chunk c k) → first i ≡ wrong_by_leaf F c k
  unfolding wrong_from
  leaf_stopped h {i} = by_ending h (stopped i)

  pub leaf_reached : c.size < most → {j s i : ℕ} {r : Bool} → reached j s ≡ capped_ending (copy_to_chunk c k) → i ≡ index 0 k
      → r ≡ leaf_from F c.tree c.content c.size (stored_held c.bitfield k) (2 * k) s → wrong_unless r i ≡ wrong_by_leaf F c k
  unfolding wrong_from
  leaf_reached h {j} {s} q qi qr = ap₂ wrong_unless (qr ∙ sym (own_test s)) qi ∙ by_ending h (reached j s) q

-- ---- an entry, whichever it is

module _ (F : List ℕ → List ℕ) (c : Copy) (i : ℕ) where
  pub by_hole : {r : Bool} {l : Lowest} → filled c.n i ≡ false → r ≡ hole_right F c.tree i → l ≡ wrong_unless r i → l ≡ wrong_by F c i
  unfolding wrong_by
  by_hole f e q =
      q ∙ ap (λ (b : Bool). wrong_unless b i) e
      ∙ sym (ap (λ (b : Bool). cond b (cond (stored_known c.bitfield i) (wrong_by_known F c i) (wrong_by_unknown F c i)) (wrong_unless (hole_right F c.tree i) i)) f)

  pub by_unknown : {r : Bool} {l : Lowest} → filled c.n i ≡ true → stored_known c.bitfield i ≡ false
      → r ≡ (hole_right F c.tree i && not (held_leaf c.bitfield i)) → l ≡ wrong_unless r i → l ≡ wrong_by F c i
  unfolding wrong_by wrong_by_unknown held_leaf
  by_unknown f k e q =
      q ∙ ap (λ (b : Bool). wrong_unless b i) e
      ∙ sym (ap₂ (λ (b d : Bool). cond b (cond d (wrong_by_known F c i) (wrong_by_unknown F c i)) (wrong_unless (hole_right F c.tree i) i)) f k)

  module _ (f : filled c.n i ≡ true) (k : stored_known c.bitfield i ≡ true) where
    known_is : wrong_by_known F c i ≡ wrong_by F c i
    unfolding wrong_by
    known_is = sym (ap₂ (λ (b d : Bool). cond b (cond d (wrong_by_known F c i) (wrong_by_unknown F c i)) (wrong_unless (hole_right F c.tree i) i)) f k)

    pub by_leaf : {j : ℕ} {l : Lowest} → i % 2 ≡ 0 → j ≡ block i → l ≡ wrong_by_leaf F c j → l ≡ wrong_by F c i
    unfolding wrong_by_known
    by_leaf h e q =
        q ∙ ap (wrong_by_leaf F c) e ∙ sym (ap (λ (d : ℕ). by_depth_lem d (wrong_by_leaf F c (block i)) (wrong_by_parent F c i)) (even_depth i h)) ∙ known_is

    pub by_parent : {r : Bool} {l : Lowest} → (i % 2 ≡ 0 → ⊥)
        → r ≡ (not (stored_known c.bitfield (left_child i) && stored_known c.bitfield (right_child i)) || parent_right F c.tree i)
        → l ≡ wrong_unless r i → l ≡ wrong_by F c i
    unfolding wrong_by_known wrong_by_parent both_known
    by_parent h e q =
        let d : depth i ≡ suc (depth i - 1) = omega (arith, odd_depth i h) in
        q ∙ ap (λ (b : Bool). wrong_unless b i) e
        ∙ sym (ap (λ (x : ℕ). by_depth_lem x (wrong_by_leaf F c (block i)) (wrong_by_parent F c i)) d) ∙ known_is

-- ---- the walk over the entries from `from` on and before `end`

-- of those before i the lowest found wrong is x
pub record Seeking (F : List ℕ → List ℕ) (c : Copy) (from end i : ℕ) (x : Lowest) : Type 0 where
  pub behind : from ≤ i
  pub lowering : Lowering (run (wrong_by F c) from (end - from)) nowhere (i - from) x

module _ {F : List ℕ → List ℕ} {c : Copy} {from end : ℕ} where
  pub seeking_none : Seeking F c from end from nowhere
  seeking_none =
      let z : 0 ≡ from - from = omega arith in
      let found = run (wrong_by F c) from (end - from) in
      record { behind = omega arith; lowering = subst (λ (j : ℕ). Lowering found nowhere j nowhere) z (lowering_none found nowhere) }

  module _ {i : ℕ} {x : Lowest} (w : Seeking F c from end i x) where
    abbrev found : List Lowest
    found = run (wrong_by F c) from (end - from)

    pub seeking_next : {y z : Lowest} → i < end → y ≡ wrong_by F c i → z ≡ lower_of x y → Seeking F c from end (i + 1) z
    seeking_next {y} h e q =
        let f = wrong_by F c in
        let b = w.behind in
        let j : i - from + 1 ≡ i + 1 - from = omega arith in
        let at : from + (i - from) ≡ i = omega arith in
        record {
          behind = omega arith;
          lowering = subst₂ (Lowering found nowhere) j (sym q)
              (lowering_next found nowhere (i - from) x y w.lowering (omega (arith, length_run f from (end - from)))
              (e ∙ sym (get_or_run f from (end - from) (i - from) nowhere (omega arith) ∙ ap f at)));
        }

    pub seeking_all : end ≤ i → x ≡ least_of found
    unfolding lower_of
    seeking_all h =
        let b = w.behind in
        lowering_all found nowhere (i - from) x w.lowering (omega (arith, length_run (wrong_by F c) from (end - from)))

-- the walk over all entries
pub seeking_whole : (F : List ℕ → List ℕ) (c : Copy) {end : ℕ} {x : Lowest} → end ≡ entries c.n → x ≡ least_of (run (wrong_by F c) 0 (end - 0))
    → x ≡ wrong_entry_of_copy F c
unfolding wrong_entry_of_copy
seeking_whole F c {end} e q = let k : end - 0 ≡ entries c.n = omega arith in q ∙ ap (λ (m : ℕ). least_of (run (wrong_by F c) 0 m)) k
