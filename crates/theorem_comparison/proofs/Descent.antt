-- From the roots down: where the root messages are the same and no messages collide, the chunks are the same.
-- Assumes nothing.
use Prim.Native.Nat.{ℕ, zero, suc, ◌+◌, ◌*◌, ◌^◌, ◌<◌}
use mathlib.Core.Path.{◌≡◌, refl, sym, ap, ap₂, ◌∙◌}
use mathlib.Core.Logic.{◌≢◌, inl, inr}
use mathlib.Core.Bool.{true}
use mathlib.Core.List.{List, [], ◌∷◌, ◌++◌, map}
use native.Mathlib.Nat.{mul_assoc, mul-one, pow-succ'}
use native.Mathlib.Omega.{arith}
use lib.ListN.{length, get_or}
use Rattle.byte_strings.specs.Lists.{run, joined}
use Rattle.byte_strings.proofs.Lists.{run_add, run_get_or}
use Rattle.tree_index.specs.Tree.{index, filled, roots}
use Rattle.tree_index.proofs.Index.{by_coordinates, pow_twice}
use Rattle.tree_index.proofs.Filled.{block_end, filled_end, filled_left, filled_right}
use Rattle.tree_index.proofs.Roots.{root_filled}
use Rattle.tree_index.proofs.Cover.{in_block, in_block_index, roots_cover}
use Rattle.file_format.specs.Messages.{HashFunction}
use Rattle.file_format.specs.Entries.{Entry, node}
use Rattle.file_format.specs.Images.{leaves, message_for, root_message_for}
use Rattle.file_format.specs.Slots.{all_held, Within}
use Rattle.file_format.proofs.Slots.{all_length}
use Rattle.file_format.proofs.Nodes.{node_at_index, message_parent}
use Rattle.file_format.proofs.AllHeld.{chunks_hash, chunks_leaf, chunks_node}
use Rattle.theorem_comparison.specs.Demand3.{CollisionAt}
use Rattle.compare.proofs.Local.{Every, map_every, told}
use Rattle.compare.proofs.Apart.{leaf_injective, SameParent, parent_injective}
use Rattle.theorem_comparison.proofs.Roots.{hash_for, same_roots_lem}

-- the values at a leaf's block, and those at a parent's, which are those of its children
block_leaf : {A : Type 0} (f : ℕ → A) (k : ℕ) → in_block f (index zero k) ≡ f k ∷ []
unfolding run
block_leaf f k = in_block_index f zero k ∙ ap (λ (j : ℕ). f j ∷ []) (mul-one k)

block_parent : {A : Type 0} (f : ℕ → A) (d k : ℕ) → in_block f (index (suc d) k) ≡ in_block f (index d (2 * k)) ++ in_block f (index d (2 * k + 1))
block_parent f d k =
    in_block_index f (suc d) k ∙ ap₂ (run f) start double
    ∙ run_add f (2 * k * 2 ^ d) (2 ^ d) (2 ^ d)
    ∙ ap₂ ◌++◌ (sym (in_block_index f d (2 * k)))
    (ap (λ (a : ℕ). run f a (2 ^ d)) (sym (block_end d (2 * k))) ∙ sym (in_block_index f d (2 * k + 1)))
  where
    start : k * 2 ^ suc d ≡ 2 * k * 2 ^ d
    start = pow_twice k d ∙ sym (mul_assoc 2 k (2 ^ d))

    double : 2 ^ suc d ≡ 2 ^ d + 2 ^ d
    double = omega (arith, pow-succ' 2 d)

module _ (F : List ℕ → List ℕ) (H : HashFunction F) (cs ds : List (List ℕ)) (W : Within (all_held cs)) (W' : Within (all_held ds)) (count : length cs ≡ length ds)
    (free : (i : ℕ) → CollisionAt F cs ds i → ⊥) where
  -- the node of the block k of 2^d chunks, and a chunk
  abbrev node_of : List (List ℕ) → ℕ → ℕ → Entry
  node_of es d k = node F (leaves F (all_held es)) d k

  abbrev chunk : List (List ℕ) → ℕ → List ℕ
  chunk es k = get_or es k []

  in_second_lem : (i : ℕ) → filled (length cs) i ≡ true → filled (length ds) i ≡ true
  in_second_lem i f = ap (λ (n : ℕ). filled n i) (sym count) ∙ f

  -- where one hash stands, one message was hashed
  one_message : (i : ℕ) → filled (length cs) i ≡ true → hash_for F cs i ≡ hash_for F ds i → message_for F (all_held cs) i ≡ message_for F (all_held ds) i
  one_message i f e = elim (told (message_for F (all_held cs) i) (message_for F (all_held ds) i)) [ inl s ↦ s.0 | inr s ↦ absurd (collide s.0) ]
    where
      collide : message_for F (all_held cs) i ≢ message_for F (all_held ds) i → ⊥
      collide s =
          free i (record {
            in_first = f;
            in_second = in_second_lem i f;
            collision = record { differ = s; one_hash = sym (chunks_hash F cs i f) ∙ e ∙ chunks_hash F ds i (in_second_lem i f) };
          })

  hash_index : (es : List (List ℕ)) (d k : ℕ) → hash_for F es (index d k) ≡ (node_of es d k).hash
  hash_index es d k = ap (λ (e : Entry). e.hash) (node_at_index F (leaves F (all_held es)) d k)

  -- the children of nodes with one hash have one hash
  children : (d k : ℕ) → filled (length cs) (index (suc d) k) ≡ true → hash_for F cs (index (suc d) k) ≡ hash_for F ds (index (suc d) k)
      → (hash_for F cs (index d (2 * k)) ≡ hash_for F ds (index d (2 * k))) × (hash_for F cs (index d (2 * k + 1)) ≡ hash_for F ds (index d (2 * k + 1)))
  children d k f e =
      (hash_index cs d (2 * k) ∙ same.left ∙ sym (hash_index ds d (2 * k)), hash_index cs d (2 * k + 1) ∙ same.right ∙ sym (hash_index ds d (2 * k + 1)))
    where
      sum : List (List ℕ) → ℕ
      sum es = (node_of es d (2 * k)).size + (node_of es d (2 * k + 1)).size

      long : (es : List (List ℕ)) → Within (all_held es) → filled (length es) (index (suc d) k) ≡ true → length (node_of es d (2 * k)).hash ≡ 32
      long es U g = (chunks_node F es H U d (2 * k) (filled_end (length es) d (2 * k) (filled_left (length es) d k g))).long

      same : SameParent (sum cs) (sum ds) (node_of cs d (2 * k)).hash (node_of ds d (2 * k)).hash (node_of cs d (2 * k + 1)).hash
          (node_of ds d (2 * k + 1)).hash
      same =
          parent_injective (sum cs) (sum ds) (node_of cs d (2 * k)).hash (node_of ds d (2 * k)).hash (node_of cs d (2 * k + 1)).hash
          (node_of ds d (2 * k + 1)).hash (long cs W f) (long ds W' (in_second_lem (index (suc d) k) f))
          (sym (message_parent F (all_held cs) d k) ∙ one_message (index (suc d) k) f e ∙ message_parent F (all_held ds) d k)

  -- so the chunks under nodes with one hash are the same
  descend : (d k : ℕ) → filled (length cs) (index d k) ≡ true → hash_for F cs (index d k) ≡ hash_for F ds (index d k)
      → in_block (chunk cs) (index d k) ≡ in_block (chunk ds) (index d k)
  descend zero k f e =
      block_leaf (chunk cs) k
      ∙ ap (λ (c : List ℕ). c ∷ [])
      (leaf_injective (chunk cs k) (chunk ds k) (sym (chunks_leaf F cs k) ∙ one_message (index zero k) f e ∙ chunks_leaf F ds k))
      ∙ sym (block_leaf (chunk ds) k)
  descend (suc d) k f e =
      block_parent (chunk cs) d k
      ∙ ap₂ ◌++◌ (descend d (2 * k) (filled_left (length cs) d k f) (children d k f e).0)
      (descend d (2 * k + 1) (filled_right (length cs) d k f) (children d k f e).1)
      ∙ sym (block_parent (chunk ds) d k)

  -- and all chunks are, where each root's hash is
  same_chunks : Every (λ i. hash_for F cs i ≡ hash_for F ds i) (roots (length cs)) → cs ≡ ds
  same_chunks h =
      sym (under cs (length cs) refl (omega (arith, W.count, all_length cs)))
      ∙ ap joined (map_every (in_block (chunk cs)) (in_block (chunk ds)) (roots (length cs)) (λ j l. at _ (root_filled (length cs) j l) (h j l)))
      ∙ under ds (length cs) (sym count) (omega (arith, W.count, all_length cs))
    where
      under : (es : List (List ℕ)) (n : ℕ) → length es ≡ n → n < 2 ^ 21 → joined (map (in_block (chunk es)) (roots n)) ≡ es
      under es n e l = roots_cover (chunk es) n l ∙ run_get_or es n [] e

      at : (i : ℕ) → filled (length cs) i ≡ true → hash_for F cs i ≡ hash_for F ds i → in_block (chunk cs) i ≡ in_block (chunk ds) i
      at = by_coordinates (λ i. filled (length cs) i ≡ true → hash_for F cs i ≡ hash_for F ds i → in_block (chunk cs) i ≡ in_block (chunk ds) i) descend

-- the chunk side of demand 3: one root message and no collision make one sequence
pub one_sequence : (F : List ℕ → List ℕ) → HashFunction F → (cs ds : List (List ℕ)) → Within (all_held cs) → Within (all_held ds)
    → root_message_for F (all_held cs) ≡ root_message_for F (all_held ds) → ((i : ℕ) → CollisionAt F cs ds i → ⊥) → cs ≡ ds
one_sequence F H cs ds W W' e free = let r = same_roots_lem F H cs ds W W' e in same_chunks F H cs ds W W' r.count free r.hashes
