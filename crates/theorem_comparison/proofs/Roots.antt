-- What equal root messages say: one number of chunks, and one hash at each root.
-- Assumes nothing.
use Prim.Native.Nat.{ℕ}
use mathlib.Core.Path.{◌≡◌, sym, ap, ◌∙◌}
use mathlib.Core.Bool.{true}
use mathlib.Core.List.{List, map, tail-eq_of_cons-eq}
use native.Mathlib.Omega.{arith}
use lib.ListN.{length, get_or}
use lib.Dec.{lit<}
use Rattle.tree_index.specs.Tree.{filled, entries, roots}
use Rattle.tree_index.proofs.Filled.{filled_below}
use Rattle.tree_index.proofs.Roots.{root_filled}
use Rattle.file_format.specs.Messages.{HashFunction, root_item, root_message}
use Rattle.file_format.specs.Entries.{node_at, root_message_of}
use Rattle.file_format.specs.Images.{leaves, root_message_for}
use Rattle.file_format.specs.Slots.{all_held, Within}
use Rattle.file_format.proofs.Slots.{all_length}
use Rattle.file_format.proofs.AllHeld.{chunks_length, chunks_node_at}
use Rattle.file_format.proofs.ByValue.{item_length}
use Rattle.compare.proofs.Local.{Every}
use Rattle.compare.proofs.Apart.{be_injective, SameItem, item_injective}
use Rattle.compare.proofs.RootMessages.{roots_injective, items_injective}

module _ (F : List ℕ → List ℕ) where
  -- the hash at a tree index
  abbrev pub hash_for : List (List ℕ) → ℕ → List ℕ
  hash_for cs i = (node_at F (leaves F (all_held cs)) i).hash

  -- the item of a root
  item_for : List (List ℕ) → ℕ → List ℕ
  item_for cs i = root_item (hash_for cs i) i (node_at F (leaves F (all_held cs)) i).size

  items_for : (cs : List (List ℕ)) → root_message_for F (all_held cs) ≡ root_message (map (item_for cs) (roots (length cs)))
  unfolding root_message_for root_message_of item_for
  items_for cs = ap (λ (n : ℕ). root_message (map (item_for cs) (roots n))) (chunks_length F cs)

  pub record SameRoots (cs ds : List (List ℕ)) : Type 0 where
    pub count : length cs ≡ length ds
    pub hashes : Every (λ i. hash_for cs i ≡ hash_for ds i) (roots (length cs))

  -- equal root messages have one number of chunks, and one hash at each root
  pub same_roots_lem : HashFunction F → (cs ds : List (List ℕ)) → Within (all_held cs) → Within (all_held ds) → root_message_for F (all_held cs) ≡ root_message_for F (all_held ds) → SameRoots cs ds
  unfolding root_message item_for entries
  same_roots_lem H cs ds W W' e =
      record {
        count = count';
        hashes = λ j l.
            let i : ℕ = get_or (roots (length cs)) j 0 in
            let f : filled (length cs) i ≡ true = root_filled (length cs) j l in
            (items i i f (ap (λ (n : ℕ). filled n i) (sym count') ∙ f) (r.1 j l)).hash;
      }
    where
      long : (es : List (List ℕ)) → Within (all_held es) → (i : ℕ) → filled (length es) i ≡ true → length (hash_for es i) ≡ 32
      long es U i f = (chunks_node_at F es H U i f).long

      wide : (es : List (List ℕ)) → Within (all_held es) → (i : ℕ) → filled (length es) i ≡ true → length (item_for es i) ≡ 48
      wide es U i f = item_length (hash_for es i) i (node_at F (leaves F (all_held es)) i).size (long es U i f)

      items : (i j : ℕ) → filled (length cs) i ≡ true → filled (length ds) j ≡ true → item_for cs i ≡ item_for ds j
          → SameItem (hash_for cs i) (hash_for ds j) i j (node_at F (leaves F (all_held cs)) i).size (node_at F (leaves F (all_held ds)) j).size
      items i j f g s =
          item_injective (hash_for cs i) (hash_for ds j) i j (node_at F (leaves F (all_held cs)) i).size (node_at F (leaves F (all_held ds)) j).size (long cs W i f)
          (long ds W' j g) s

      tell : (i j : ℕ) → filled (length cs) i ≡ true → filled (length ds) j ≡ true → item_for cs i ≡ item_for ds j → i ≡ j
      tell i j f g s =
          be_injective 8 i j (omega (arith, filled_below (length cs) i f, W.count, all_length cs)) (omega (arith, filled_below (length ds) j g, W'.count, all_length ds))
          (items i j f g s).place

      r : (roots (length cs) ≡ roots (length ds)) × Every (λ i. item_for cs i ≡ item_for ds i) (roots (length cs))
      r = items_injective (item_for cs) (item_for ds) (λ i. filled (length cs) i ≡ true) (λ i. filled (length ds) i ≡ true) 48 (lit< tt) (wide cs W)
          (wide ds W') tell (roots (length cs)) (roots (length ds)) (root_filled (length cs)) (root_filled (length ds))
          (tail-eq_of_cons-eq (sym (items_for cs) ∙ e ∙ items_for ds))

      count' : length cs ≡ length ds
      count' = roots_injective (length cs) (length ds) (omega (arith, W.count, all_length cs)) (omega (arith, W'.count, all_length ds)) r.0
