-- The steps of a packet whose chunk and siblings are those of a chunk sequence hash the messages of the sequence.
-- Assumes nothing.
use Prim.Native.Nat.{ℕ, zero, suc, ◌+◌, ◌*◌, ◌/◌, ◌%◌, ◌^◌, ◌≤◌, ◌<◌}
use mathlib.Core.Path.{◌≡◌, sym, ap, ap₂, ◌∙◌}
use mathlib.Core.Logic.{◌⊎◌, inl, inr}
use mathlib.Core.Bool.{true}
use mathlib.Core.List.{List, []}
use native.Mathlib.Nat.{div-one, zero-add, not-suc-le-zero, le_of_suc-le-suc}
use native.Mathlib.Numerals.{add-one}
use native.Mathlib.Omega.{arith}
use lib.ListN.{length, get_or}
use Rattle.answer_types.specs.Verdict.{done}
use Rattle.byte_strings.specs.Lists.{run}
use Rattle.byte_strings.proofs.Lists.{length_run}
use Rattle.tree_index.specs.Tree.{index, depth, roots}
use Rattle.tree_index.proofs.Roots.{bit}
use Rattle.blake2b.specs.Hash.{node_hash}
use Rattle.file_format.specs.Messages.{leaf_message}
use Rattle.file_format.specs.Entries.{Entry, leaf, parent_of, node}
use Rattle.file_format.specs.Images.{leaves, message_for}
use Rattle.file_format.specs.Slots.{Slot, contents, held_in, Within}
use Rattle.file_format.specs.Belongs.{Register, Belongs}
use Rattle.file_format.proofs.Nodes.{message_leaf, message_parent}
use Rattle.file_format.proofs.Hashed.{hash_function}
use Rattle.checks.specs.Checks.{judged, register_checks}
use Rattle.packet.specs.Packet.{root_above, beside, siblings, packet_of}
use Rattle.packet.specs.Check.{Step, ordered, parent_message_of, packet_chunk, sibling_entries, steps_above, steps}
use Rattle.packet.proofs.Rows.{beside_even, beside_odd, half}
use Rattle.packet.proofs.Answers.{chunk_is, chunk_leaf, siblings_are, the_message}
use Rattle.packet_compare.specs.Theorems.{step_at, StandsMade, StandsMadeForAll}
use Rattle.packet_compare.proofs.Stands.{stands}
use Rattle.packet.proofs.Climb.{arranged}

module _ (F : List ℕ → List ℕ) (ss : List Slot) where
  abbrev es : List Entry
  es = leaves F ss

  -- a block and the block beside it, in their order, are the two halves of their parent
  halves : {A : Type 0} (f : Entry → Entry → A) (d k : ℕ)
      → ordered k f (node F es d k) (node F es d (beside k)) ≡ f (node F es d (2 * (k / 2))) (node F es d (2 * (k / 2) + 1))
  unfolding ordered
  halves {A} f d k = pick (bit k)
    where
      pick : (k % 2 ≡ 0) ⊎ (k % 2 ≡ 1)
          → arranged (k % 2) (f (node F es d k) (node F es d (beside k))) (f (node F es d (beside k)) (node F es d k))
          ≡ f (node F es d (2 * (k / 2))) (node F es d (2 * (k / 2) + 1))
      pick (inl z) =
          let a : k ≡ 2 * (k / 2) = omega arith in
          let b : beside k ≡ 2 * (k / 2) + 1 = sym (beside_even k z) ∙ omega arith in
          ap (λ (x : ℕ). arranged x (f (node F es d k) (node F es d (beside k))) (f (node F es d (beside k)) (node F es d k))) z
          ∙ ap₂ (λ (x y : ℕ). f (node F es d x) (node F es d y)) a b
      pick (inr z) =
          let a : k ≡ 2 * (k / 2) + 1 = omega arith in
          let b : beside k ≡ 2 * (k / 2) = sym (beside_odd k z) ∙ omega arith in
          ap (λ (x : ℕ). arranged x (f (node F es d k) (node F es d (beside k))) (f (node F es d (beside k)) (node F es d k))) z
          ∙ ap₂ (λ (x y : ℕ). f (node F es d y) (node F es d x)) a b

  module _ (c : ℕ) where
    -- the nodes beside the way up
    abbrev sides : ℕ → Entry
    sides h = node F es h (beside (c / 2 ^ h))

    first_message : (d : ℕ) → ordered (c / 2 ^ d) parent_message_of (node F es d (c / 2 ^ d)) (sides d) ≡ message_for F ss (index (suc d) (c / 2 ^ suc d))
    first_message d =
        halves parent_message_of d (c / 2 ^ d) ∙ sym (message_parent F ss d (c / 2 ^ d / 2))
        ∙ ap (λ (k : ℕ). message_for F ss (index (suc d) k)) (half c d)

    next_node : (d : ℕ) → ordered (c / 2 ^ d) (parent_of F) (node F es d (c / 2 ^ d)) (sides d) ≡ node F es (suc d) (c / 2 ^ suc d)
    unfolding node
    next_node d = halves (parent_of F) d (c / 2 ^ d) ∙ ap (node F es (suc d)) (half c d)

    rest_steps : (d m : ℕ)
        → steps_above F (d + 1) (c / 2 ^ d / 2) (ordered (c / 2 ^ d) (parent_of F) (node F es d (c / 2 ^ d)) (sides d)) (run sides (suc d) m)
        ≡ steps_above F (suc d) (c / 2 ^ suc d) (node F es (suc d) (c / 2 ^ suc d)) (run sides (suc d) m)
    rest_steps d m = λ t. steps_above F (add-one d t) (half c d t) (next_node d t) (run sides (suc d) m)

    above_messages : (d m j : ℕ) → j < m
        → (step_at (steps_above F d (c / 2 ^ d) (node F es d (c / 2 ^ d)) (run sides d m)) j).message ≡ message_for F ss (index (suc (d + j)) (c / 2 ^ suc (d + j)))
    unfolding steps_above run
    above_messages d zero j h = absurd (not-suc-le-zero h)
    above_messages d (suc m) zero h =
        let q : suc d ≡ suc (d + 0) = omega arith in first_message d ∙ ap (λ (x : ℕ). message_for F ss (index x (c / 2 ^ x))) q
    above_messages d (suc m) (suc j) h =
        let q : suc d + j ≡ d + suc j = omega arith in
        ap (λ (xs : List Step). (step_at xs j).message) (rest_steps d m) ∙ above_messages (suc d) m j (le_of_suc-le-suc h)
        ∙ ap (λ (x : ℕ). message_for F ss (index (suc x) (c / 2 ^ suc x))) q

    -- of a packet whose chunk is that of the sequence, and whose siblings are its nodes beside the way up
    module _ (p : List ℕ) (n m : ℕ) (low : leaf F (packet_chunk p) ≡ node F es 0 (c / 2 ^ 0)) (chunk : packet_chunk p ≡ get_or (contents ss) c [])
        (side : sibling_entries p n c ≡ run sides 0 m) where
      made_steps : steps_above F 0 c (leaf F (packet_chunk p)) (sibling_entries p n c) ≡ steps_above F 0 (c / 2 ^ 0) (node F es 0 (c / 2 ^ 0)) (run sides 0 m)
      made_steps = λ t. steps_above F 0 (sym (div-one c) t) (low t) (side t)

      pub made_messages : (d : ℕ) → d ≤ m → (step_at (steps F p n c) d).message ≡ message_for F ss (index d (c / 2 ^ d))
      unfolding steps
      made_messages zero h =
          ap leaf_message chunk ∙ sym (message_leaf F ss c) ∙ ap (λ (k : ℕ). message_for F ss (index 0 k)) (sym (div-one c))
      made_messages (suc j) h =
          ap (λ (xs : List Step). (step_at xs j).message) made_steps ∙ above_messages 0 m j (omega arith)
          ∙ ap (λ (x : ℕ). message_for F ss (index (suc x) (c / 2 ^ suc x))) (zero-add j)

-- there are as many steps as depths up to the root above the chunk
way : (F : List ℕ → List ℕ) (p : List ℕ) (n c d : ℕ) → d < length (steps F p n c) → d ≤ depth (root_above (roots n) c)
unfolding siblings
way F p n c d l =
    let q : length (siblings n c) ≡ depth (root_above (roots n) c) = length_run _ 0 (depth (root_above (roots n) c)) in
    omega (arith, (stands F p n c).count, q)

pub stands_made : StandsMadeForAll
stands_made F H ss w r b ok c h =
    record {
      message = λ d l. made_messages F ss c (packet_of r c) r.n (depth (root_above (roots r.n) c)) (chunk_leaf F H ss w r b ok c h)
          (chunk_is F H ss w r b ok c h) (siblings_are F H ss w r b ok c h) d (way F (packet_of r c) r.n c d l)
          ∙ ap (message_for F ss) (sym ((stands F (packet_of r c) r.n c).at d l));
      roots = the_message F H ss w r b ok c h;
    }

-- ---- at the hash of the calls

pub stands_made_of_the_call : (ss : List Slot) → Within ss → (r : Register) → Belongs node_hash r ss → judged (register_checks r) done ≡ done
    → (c : ℕ) → held_in ss c ≡ true → StandsMade node_hash r ss c
stands_made_of_the_call = stands_made node_hash hash_function
