-- The entries that an append makes, one for each depth, on any tree file. Assumes nothing.
use Prim.Native.Nat.{ℕ, zero, suc, ◌+◌, ◌/◌, ◌-◌, ◌^◌, ◌≤◌, ◌<◌}
use mathlib.Core.Path.{◌≡◌, refl, sym, ap, ◌∙◌}
use mathlib.Core.List.{List, ◌∷◌, map}
use native.Mathlib.Numerals.{add-one}
use native.Mathlib.Omega.{arith}
use lib.ListN.{length}
use Rattle.byte_strings.specs.Lists.{run, Bytes}
use Rattle.byte_strings.proofs.Lists.{run_ext, bytes_part}
use Rattle.tree_index.specs.Tree.{index, depth, completed, filled_by}
use Rattle.tree_index.proofs.Index.{depth_index}
use Rattle.blake2b.specs.Hash.{node_hash}
use Rattle.blake2b.proofs.Laws.{node_length, node_byte}
use Rattle.file_format.specs.Sizes.{entry_place}
use Rattle.file_format.specs.Messages.{HashFunction}
use Rattle.file_format.specs.Entries.{Entry, entry_bytes, leaf, parent_of}
use Rattle.file_format.specs.Stored.{stored_hash}
use Rattle.file_format.proofs.Nodes.{leaf_message_bytes, parent_message_bytes, entry_bytes_length}
use Rattle.writing.specs.Append.{stored_entry, sibling, climb, new_entries}
use Rattle.writing.specs.Inner.{made}

map_run : {A : Type 0} (f : ℕ → A) (g : ℕ → ℕ) (i k : ℕ) → map f (run g i k) ≡ run (λ j. f (g j)) i k
unfolding run
map_run f g i zero = refl
map_run f g i (suc k) = ap (λ l. f (g i) ∷ l) (map_run f g (suc i) k)

module _ (F : List ℕ → List ℕ) where
  -- they are those of the definition
  pub climb_made : (t : List ℕ) (n : ℕ) (e : Entry) (d k : ℕ) → climb F t n d k (made F t n e d) ≡ run (made F t n e) d (suc k)
  unfolding climb run made
  climb_made t n e d zero = refl
  climb_made t n e d (suc k) =
      ap (λ (l : List Entry). made F t n e d ∷ l)
      (ap (λ (x : ℕ). climb F t n x k (parent_of F (stored_entry t (sibling n d)) (made F t n e d))) (add-one d) ∙ climb_made t n e (suc d) k)

  -- in the order of the indexes that the chunk n fills
  pub new_made : (t : List ℕ) (n : ℕ) (c : List ℕ) → new_entries F t n c ≡ map (λ i. made F t n (leaf F c) (depth i)) (filled_by n)
  unfolding new_entries filled_by made
  new_made t n c =
      climb_made t n (leaf F c) 0 (completed n) ∙ ap (run (made F t n (leaf F c)) 0) (sym (add-one (completed n)))
      ∙ run_ext (made F t n (leaf F c)) (λ d. made F t n (leaf F c) (depth (index d ((n + 1) / 2 ^ d - 1)))) 0 (completed n + 1)
      (λ d p q. ap (made F t n (leaf F c)) (sym (depth_index d ((n + 1) / 2 ^ d - 1))))
      ∙ sym (map_run (λ i. made F t n (leaf F c) (depth i)) (λ d. index d ((n + 1) / 2 ^ d - 1)) 0 (completed n + 1))

  -- each has 40 bytes, where the tree file and the chunk hold bytes
  module _ (hf : HashFunction F) (t : List ℕ) (n : ℕ) (c : List ℕ) (q : Bytes t) (p : Bytes c) where
    pub hashed : (d : ℕ) → (length (made F t n (leaf F c) d).hash ≡ 32) × Bytes (made F t n (leaf F c) d).hash
    unfolding made leaf parent_of stored_entry stored_hash
    hashed zero = (hf.size _ (leaf_message_bytes c p), hf.byte _ (leaf_message_bytes c p))
    hashed (suc d) =
        let m = parent_message_bytes _ _ _ (bytes_part t (entry_place (sibling n d)) 32 q) (hashed d).1 in
        (hf.size _ m, hf.byte _ m)

    pub made_long : (d : ℕ) → length (entry_bytes (made F t n (leaf F c) d)) ≡ 40
    made_long d = entry_bytes_length (made F t n (leaf F c) d) (hashed d).0

  -- tree files that store the same siblings
  pub climb_same : (t u : List ℕ) (n : ℕ) → ((d : ℕ) → d < completed n → stored_entry t (sibling n d) ≡ stored_entry u (sibling n d))
      → (k d : ℕ) (e : Entry) → d + k ≤ completed n → climb F t n d k e ≡ climb F u n d k e
  unfolding climb
  climb_same t u n same zero d e h = refl
  climb_same t u n same (suc k) d e h =
      ap (λ (l : List Entry). e ∷ l)
      (ap (λ (x : Entry). climb F t n (d + 1) k (parent_of F x e)) (same d (omega arith))
      ∙ climb_same t u n same k (d + 1) (parent_of F (stored_entry u (sibling n d)) e) (omega arith))

-- the hashes of the calls have 32 bytes, whatever the tree file and the chunk hold
pub node_hashed : (t : List ℕ) (n : ℕ) (c : List ℕ) (d : ℕ)
    → (length (made node_hash t n (leaf node_hash c) d).hash ≡ 32) × Bytes (made node_hash t n (leaf node_hash c) d).hash
unfolding made leaf parent_of
node_hashed t n c zero = (node_length _, node_byte _)
node_hashed t n c (suc d) = (node_length _, node_byte _)
