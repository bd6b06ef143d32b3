-- Where the steps of a packet stand, and what they hash.
-- Assumes nothing.
use Prim.Native.Nat.{ℕ, zero, suc, ◌+◌, ◌-◌, ◌*◌, ◌/◌, ◌%◌, ◌^◌, ◌<◌}
use mathlib.Core.Path.{◌≡◌, refl, sym, ap, ap₂, ◌∙◌, subst}
use mathlib.Core.Logic.{◌⊎◌, inl, inr}
use mathlib.Core.Bool.{true}
use mathlib.Core.List.{List, [], ◌∷◌}
use native.Mathlib.Nat.{zero-add, div-one, div-eq_of_lt-le, not-suc-le-zero, le_of_suc-le-suc}
use native.Mathlib.Numerals.{add-one}
use native.Mathlib.Omega.{arith}
use lib.ListN.{length, get_or}
use Rattle.byte_strings.proofs.Lists.{length_run, get_or_run}
use Rattle.tree_index.specs.Tree.{index, depth, left_child, right_child, filled, roots}
use Rattle.tree_index.proofs.Index.{index_of, left_child_index, right_child_index}
use Rattle.tree_index.proofs.Filled.{filled_left, filled_right}
use Rattle.tree_index.proofs.Roots.{bit, root_filled}
use Rattle.file_format.specs.Messages.{leaf_message}
use Rattle.file_format.specs.Entries.{Entry, hole, leaf, parent_of}
use Rattle.packet.specs.Packet.{root_above, beside, siblings, place_above}
use Rattle.packet.specs.Check.{Step, ordered, parent_message_of, packet_chunk, sibling_entries, steps_above, steps}
use Rattle.packet.specs.Inner.{ChunkOf}
use Rattle.packet.proofs.Above.{place_root, place_below, root_spans}
use Rattle.packet.proofs.Rows.{beside_even, beside_odd, half, siblings_count}
use Rattle.packet_compare.specs.Theorems.{step_at, StandsForAll}
use Rattle.packet.proofs.Climb.{arranged, steps_count}
use Rattle.packet_compare.proofs.Up.{ordered_hash}

-- ---- the blocks around a chunk are filled up to its root

module _ (n c : ℕ) (h : ChunkOf n c) where
  abbrev pub top : ℕ
  top = root_above (roots n) c

  pub top_index : index (depth top) (c / 2 ^ depth top) ≡ top
  top_index =
      let s = root_spans n c h in ap (index (depth top)) (div-eq_of_lt-le (2 ^ depth top) s.from s.to) ∙ index_of top

  pub top_filled : filled n top ≡ true
  top_filled = subst (λ (x : ℕ). filled n x ≡ true) (sym (place_root (roots n) c)) (root_filled n (place_above (roots n) c) (place_below n c h))

  child_filled : (d : ℕ) → filled n (index (suc d) (c / 2 ^ suc d)) ≡ true → filled n (index d (c / 2 ^ d)) ≡ true
  child_filled d f = pick (bit (c / 2 ^ d))
    where
      up : filled n (index (suc d) (c / 2 ^ d / 2)) ≡ true
      up = subst (λ (x : ℕ). filled n (index (suc d) x) ≡ true) (sym (half c d)) f

      pick : (c / 2 ^ d % 2 ≡ 0) ⊎ (c / 2 ^ d % 2 ≡ 1) → filled n (index d (c / 2 ^ d)) ≡ true
      pick (inl z) =
          let q : 2 * (c / 2 ^ d / 2) ≡ c / 2 ^ d = omega arith in
          subst (λ (x : ℕ). filled n (index d x) ≡ true) q (filled_left n d (c / 2 ^ d / 2) up)
      pick (inr z) =
          let q : 2 * (c / 2 ^ d / 2) + 1 ≡ c / 2 ^ d = omega arith in
          subst (λ (x : ℕ). filled n (index d x) ≡ true) q (filled_right n d (c / 2 ^ d / 2) up)

  way_filled : (m d : ℕ) → d + m ≡ depth top → filled n (index d (c / 2 ^ d)) ≡ true
  way_filled zero d e =
      let q : d ≡ depth top = omega arith in
      subst (λ (x : ℕ). filled n x ≡ true) (sym (ap (λ (x : ℕ). index x (c / 2 ^ x)) q ∙ top_index)) top_filled
  way_filled (suc m) d e = child_filled d (way_filled m (suc d) (omega arith))

-- ---- the steps above a block of 2^d chunks around chunk c

module _ (F : List ℕ → List ℕ) (c : ℕ) where
  -- the steps behind the first, by coordinates
  pub rest_is : (d : ℕ) (a : Entry) (ss : List Entry) → steps_above F (d + 1) (c / 2 ^ d / 2) a ss ≡ steps_above F (suc d) (c / 2 ^ suc d) a ss
  rest_is d a ss = ap₂ (λ (x y : ℕ). steps_above F x y a ss) (add-one d) (half c d)

  above_at : (d : ℕ) (e : Entry) (ss : List Entry) (j : ℕ) → j < length ss
      → (step_at (steps_above F d (c / 2 ^ d) e ss) j).at ≡ index (suc (d + j)) (c / 2 ^ suc (d + j))
  unfolding steps_above
  above_at d e [] j l = absurd (not-suc-le-zero l)
  above_at d e (s ∷ ss) zero l =
      let q : suc d ≡ suc (d + 0) = omega arith in
      ap₂ index (add-one d) (half c d) ∙ ap (λ (x : ℕ). index x (c / 2 ^ x)) q
  above_at d e (s ∷ ss) (suc j) l =
      let a : Entry = ordered (c / 2 ^ d) (parent_of F) e s in
      let q : suc d + j ≡ d + suc j = omega arith in
      ap (λ (xs : List Step). (step_at xs j).at) (rest_is d a ss) ∙ above_at (suc d) a ss j (le_of_suc-le-suc l)
      ∙ ap (λ (x : ℕ). index (suc x) (c / 2 ^ suc x)) q

  above_hash : (d k : ℕ) (e : Entry) (ss : List Entry) (j : ℕ) → j < length ss
      → (step_at (steps_above F d k e ss) j).entry.hash ≡ F (step_at (steps_above F d k e ss) j).message
  unfolding steps_above
  above_hash d k e [] j l = absurd (not-suc-le-zero l)
  above_hash d k e (s ∷ ss) zero l = ordered_hash F k e s
  above_hash d k e (s ∷ ss) (suc j) l = above_hash (d + 1) (k / 2) (ordered k (parent_of F) e s) ss j (le_of_suc-le-suc l)

  -- the entry below the step j: that of the block itself, or of the step before
  abbrev pub under : ℕ → Entry → List Entry → ℕ → Entry
  under d e ss zero = e
  under d e ss (suc j) = (step_at (steps_above F d (c / 2 ^ d) e ss) j).entry

  -- the same, counted from the step above
  pub under_shift : (d : ℕ) (e s : Entry) (ss : List Entry) (i : ℕ)
      → under (suc d) (ordered (c / 2 ^ d) (parent_of F) e s) ss i ≡ under d e (s ∷ ss) (suc i)
  unfolding steps_above
  under_shift d e s ss zero = refl
  under_shift d e s ss (suc i) = ap (λ (xs : List Step). (step_at xs i).entry) (sym (rest_is d (ordered (c / 2 ^ d) (parent_of F) e s) ss))

  above_message : (d : ℕ) (e : Entry) (ss : List Entry) (j : ℕ) → j < length ss
      → (step_at (steps_above F d (c / 2 ^ d) e ss) j).message ≡ ordered (c / 2 ^ (d + j)) parent_message_of (under d e ss j) (get_or ss j hole)
  unfolding steps_above
  above_message d e [] j l = absurd (not-suc-le-zero l)
  above_message d e (s ∷ ss) zero l =
      let q : d ≡ d + 0 = omega arith in ap (λ (x : ℕ). ordered (c / 2 ^ x) parent_message_of e s) q
  above_message d e (s ∷ ss) (suc j) l =
      let a : Entry = ordered (c / 2 ^ d) (parent_of F) e s in
      let q : suc d + j ≡ d + suc j = omega arith in
      ap (λ (xs : List Step). (step_at xs j).message) (rest_is d a ss) ∙ above_message (suc d) a ss j (le_of_suc-le-suc l)
      ∙ ap₂ (λ (x : ℕ) (y : Entry). ordered (c / 2 ^ x) parent_message_of y (get_or ss j hole)) q (under_shift d e s ss j)

-- ---- all steps of a packet

module _ (F : List ℕ → List ℕ) (p : List ℕ) (n c : ℕ) where
  abbrev pub low : Entry
  low = leaf F (packet_chunk p)

  abbrev pub sides : List Entry
  sides = sibling_entries p n c

  -- the chunk is its own block of one
  pub from_chunk : steps_above F 0 c low sides ≡ steps_above F 0 (c / 2 ^ 0) low sides
  from_chunk = ap (λ (k : ℕ). steps_above F 0 k low sides) (sym (div-one c))

  pub all_count : length (steps F p n c) ≡ suc (length (siblings n c))
  unfolding steps
  all_count = ap suc (steps_count F 0 c low sides ∙ siblings_count p n c)

  pub all_at : (d : ℕ) → d < length (steps F p n c) → (step_at (steps F p n c) d).at ≡ index d (c / 2 ^ d)
  unfolding steps
  all_at zero l = ap (index 0) (sym (div-one c))
  all_at (suc j) l =
      let q : suc (0 + j) ≡ suc j = omega arith in
      ap (λ (xs : List Step). (step_at xs j).at) from_chunk
      ∙ above_at F c 0 low sides j (omega (arith, steps_count F 0 c low sides)) ∙ ap (λ (x : ℕ). index x (c / 2 ^ x)) q

  all_hash : (d : ℕ) → d < length (steps F p n c) → (step_at (steps F p n c) d).entry.hash ≡ F (step_at (steps F p n c) d).message
  unfolding steps leaf
  all_hash zero l = refl
  all_hash (suc j) l = above_hash F c 0 c low sides j (omega (arith, steps_count F 0 c low sides))

  all_filled : ChunkOf n c → (d : ℕ) → d < length (steps F p n c) → filled n (index d (c / 2 ^ d)) ≡ true
  unfolding siblings
  all_filled h d l =
      let q : length (siblings n c) ≡ depth (root_above (roots n) c) = length_run _ 0 (depth (root_above (roots n) c)) in
      way_filled n c h (depth (root_above (roots n) c) - d) d (omega (arith, all_count, q))

  -- the entry below a step is that of the step before
  pub under_step : (j : ℕ) → under F c 0 low sides j ≡ (step_at (steps F p n c) j).entry
  unfolding steps
  under_step zero = refl
  under_step (suc j) = ap (λ (xs : List Step). (step_at xs j).entry) (sym from_chunk)

  pub all_message : (d : ℕ) → d < length (siblings n c)
      → (step_at (steps F p n c) (suc d)).message ≡ ordered (c / 2 ^ d) parent_message_of (step_at (steps F p n c) d).entry (get_or sides d hole)
  unfolding steps
  all_message d l =
      ap (λ (xs : List Step). (step_at xs d).message) from_chunk ∙ above_message F c 0 low sides d (omega (arith, siblings_count p n c))
      ∙ ap₂ (λ (x : ℕ) (y : Entry). ordered (c / 2 ^ x) parent_message_of y (get_or sides d hole)) (zero-add d) (under_step d)

  -- the sibling stands beside the block
  pub sibling_is : (d : ℕ) → d < length (siblings n c) → get_or (siblings n c) d 0 ≡ index d (beside (c / 2 ^ d))
  unfolding siblings
  sibling_is d l =
      get_or_run (λ j. index j (beside (c / 2 ^ j))) 0 (depth (root_above (roots n) c)) d 0 (omega (arith, length_run (λ j. index j (beside (c / 2 ^ j))) 0 (depth (root_above (roots n) c))))
      ∙ ap (λ (j : ℕ). index j (beside (c / 2 ^ j))) (zero-add d)

  pub children : (d : ℕ) → (left_child (index (suc d) (c / 2 ^ suc d)) ≡ index d (2 * (c / 2 ^ d / 2)))
      × (right_child (index (suc d) (c / 2 ^ suc d)) ≡ index d (2 * (c / 2 ^ d / 2) + 1))
  children d = (
    left_child_index d (c / 2 ^ suc d) ∙ ap (λ (x : ℕ). index d (2 * x)) (sym (half c d)),
    right_child_index d (c / 2 ^ suc d) ∙ ap (λ (x : ℕ). index d (2 * x + 1)) (sym (half c d)),
  )

  all_left : (d : ℕ) → d < length (siblings n c) → c / 2 ^ d % 2 ≡ 0
      → (left_child (index (suc d) (c / 2 ^ suc d)) ≡ index d (c / 2 ^ d)) × (right_child (index (suc d) (c / 2 ^ suc d)) ≡ get_or (siblings n c) d 0)
      × ((step_at (steps F p n c) (suc d)).message ≡ parent_message_of (step_at (steps F p n c) d).entry (get_or (sibling_entries p n c) d hole))
  unfolding ordered
  all_left d l z =
      let a : 2 * (c / 2 ^ d / 2) ≡ c / 2 ^ d = omega arith in
      let b : 2 * (c / 2 ^ d / 2) + 1 ≡ beside (c / 2 ^ d) = ap (λ (x : ℕ). x + 1) a ∙ beside_even (c / 2 ^ d) z in (
        (children d).0 ∙ ap (index d) a,
        (children d).1 ∙ ap (index d) b ∙ sym (sibling_is d l),
        all_message d l
            ∙ ap (λ (x : ℕ). arranged x (parent_message_of (step_at (steps F p n c) d).entry (get_or sides d hole)) (parent_message_of (get_or sides d hole) (step_at (steps F p n c) d).entry)) z,
      )

  all_right : (d : ℕ) → d < length (siblings n c) → c / 2 ^ d % 2 ≡ 1
      → (left_child (index (suc d) (c / 2 ^ suc d)) ≡ get_or (siblings n c) d 0) × (right_child (index (suc d) (c / 2 ^ suc d)) ≡ index d (c / 2 ^ d))
      × ((step_at (steps F p n c) (suc d)).message ≡ parent_message_of (get_or (sibling_entries p n c) d hole) (step_at (steps F p n c) d).entry)
  unfolding ordered
  all_right d l z =
      let a : 2 * (c / 2 ^ d / 2) + 1 ≡ c / 2 ^ d = omega arith in
      let b : 2 * (c / 2 ^ d / 2) ≡ beside (c / 2 ^ d) = omega (arith, beside_odd (c / 2 ^ d) z) in (
        (children d).0 ∙ ap (index d) b ∙ sym (sibling_is d l),
        (children d).1 ∙ ap (index d) a,
        all_message d l
            ∙ ap (λ (x : ℕ). arranged x (parent_message_of (step_at (steps F p n c) d).entry (get_or sides d hole)) (parent_message_of (get_or sides d hole) (step_at (steps F p n c) d).entry)) z,
      )

  first_message : (step_at (steps F p n c) 0).message ≡ leaf_message (packet_chunk p)
  unfolding steps
  first_message = refl

pub stands : StandsForAll
stands F p n c =
    record {
      count = all_count F p n c;
      at = all_at F p n c;
      there = all_filled F p n c;
      leaf = first_message F p n c;
      left = all_left F p n c;
      right = all_right F p n c;
      hash = all_hash F p n c;
    }
