-- The laws of nodes and messages, of a chunk sequence, all of it held.
-- Assumes nothing.
use Prim.Native.Nat.{ℕ, zero, ◌+◌, ◌*◌, ◌^◌, ◌≤◌, ◌<◌}
use mathlib.Core.Path.{◌≡◌, sym, ap, ◌∙◌, subst}
use mathlib.Core.Bool.{true}
use mathlib.Core.List.{List, []}
use borrow.Author.Tests.{lt-ltb}
use lib.ListN.{length, get_or}
use Rattle.tree_index.specs.Tree.{index, filled}
use Rattle.file_format.specs.Messages.{HashFunction, leaf_message}
use Rattle.file_format.specs.Entries.{node, node_at}
use Rattle.file_format.specs.Slots.{all_held, Within}
use Rattle.file_format.specs.Images.{leaves, message_for}
use Rattle.file_format.proofs.Slots.{all_length, all_contents, all_held_lem, leaves_length}
use Rattle.file_format.proofs.Nodes.{AllHeld, Proper, node_at_hash, message_leaf, node_proper, node_at_proper}

module _ (F : List ℕ → List ℕ) (cs : List (List ℕ)) where
  pub each_held : AllHeld F (all_held cs)
  each_held k h = all_held_lem cs k ∙ lt-ltb k (length cs) (subst (λ (n : ℕ). k < n) (all_length cs) h)

  pub chunks_length : length (leaves F (all_held cs)) ≡ length cs
  chunks_length = leaves_length F (all_held cs) ∙ all_length cs

  still_filled : (i : ℕ) → filled (length cs) i ≡ true → filled (length (all_held cs)) i ≡ true
  still_filled i f = ap (λ (n : ℕ). filled n i) (all_length cs) ∙ f

  pub chunks_hash : (i : ℕ) → filled (length cs) i ≡ true → (node_at F (leaves F (all_held cs)) i).hash ≡ F (message_for F (all_held cs) i)
  chunks_hash i f = node_at_hash F (all_held cs) each_held i (still_filled i f)

  pub chunks_leaf : (k : ℕ) → message_for F (all_held cs) (index zero k) ≡ leaf_message (get_or cs k [])
  chunks_leaf k = message_leaf F (all_held cs) k ∙ ap (λ (l : List (List ℕ)). leaf_message (get_or l k [])) (all_contents cs)

  pub chunks_node : HashFunction F → Within (all_held cs) → (d k : ℕ) → (k + 1) * 2 ^ d ≤ length cs → Proper (node F (leaves F (all_held cs)) d k)
  chunks_node hf w d k h = node_proper F hf (all_held cs) w d k (subst (λ (n : ℕ). (k + 1) * 2 ^ d ≤ n) (sym (all_length cs)) h)

  pub chunks_node_at : HashFunction F → Within (all_held cs) → (i : ℕ) → filled (length cs) i ≡ true → Proper (node_at F (leaves F (all_held cs)) i)
  chunks_node_at hf w i f = node_at_proper F hf (all_held cs) w i (still_filled i f)
