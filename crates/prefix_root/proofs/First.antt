-- The tree of the first m chunks stands within the tree of all: what is filled for m holds the same node, and the roots of m are filled.
-- Assumes nothing.
use Prim.Native.Nat.{ℕ, zero, suc, ◌+◌, ◌*◌, ◌^◌, ◌≤◌}
use mathlib.Core.Path.{◌≡◌, refl, sym, ap, ap₂, ◌∙◌}
use mathlib.Core.Bool.{true}
use mathlib.Core.List.{List, [], ◌∷◌, map}
use native.Mathlib.Nat.{mul-one}
use native.Mathlib.Omega.{arith}
use lib.ListN.{length, get_or, take}
use lib.Seq.{length-take-le, get_or-take}
use Rattle.tree_index.specs.Tree.{index, filled, roots}
use Rattle.tree_index.proofs.Index.{by_coordinates}
use Rattle.tree_index.proofs.Filled.{filled_end, end_filled, filled_left, filled_right}
use Rattle.tree_index.proofs.Roots.{root_filled}
use Rattle.file_format.specs.Messages.{HashFunction, root_item, root_message}
use Rattle.file_format.specs.Entries.{Entry, hole, parent_of, node, node_at, root_message_of}
use Rattle.file_format.specs.Images.{leaves, root_message_for}
use Rattle.file_format.specs.Stored.{stored_hash, stored_size, stored_root_message}
use Rattle.file_format.specs.Slots.{Slot, slot_entry, Within}
use Rattle.file_format.specs.Belongs.{Register, Belongs}
use Rattle.file_format.proofs.Spans.{map_ext}
use Rattle.file_format.proofs.Slots.{leaves_length}
use Rattle.file_format.proofs.Nodes.{node_at_index}
use Rattle.file_format.proofs.OfImage.{stored_node_hash, stored_node_size}

-- what is filled among m chunks is filled among more
pub filled_more : (m n : ℕ) → m ≤ n → (i : ℕ) → filled m i ≡ true → filled n i ≡ true
filled_more m n h =
    by_coordinates (λ i. filled m i ≡ true → filled n i ≡ true) (λ d k f. end_filled n d k (omega (arith, filled_end m d k f)))

pub map_take : {A B : Type 0} (f : A → B) (m : ℕ) (xs : List A) → map f (take m xs) ≡ take m (map f xs)
map_take f zero xs = refl
map_take f (suc m) [] = refl
map_take {A} {B} f (suc m) (x ∷ xs) = ap (λ (ys : List B). f x ∷ ys) (map_take f m xs)

module _ (F : List ℕ → List ℕ) where
  -- a node does not change where its block lies within the first m leaves
  node_first : (es : List Entry) (m d k : ℕ) → (k + 1) * 2 ^ d ≤ m → node F (take m es) d k ≡ node F es d k
  unfolding node
  node_first es m zero k h = get_or-take m es k hole (omega (arith, mul-one (k + 1)))
  node_first es m (suc d) k h =
      let f : filled m (index (suc d) k) ≡ true = end_filled m (suc d) k h in
      ap₂ (parent_of F) (node_first es m d (2 * k) (filled_end m d (2 * k) (filled_left m d k f)))
      (node_first es m d (2 * k + 1) (filled_end m d (2 * k + 1) (filled_right m d k f)))

  leaves_first : (ss : List Slot) (m : ℕ) → leaves F (take m ss) ≡ take m (leaves F ss)
  unfolding leaves
  leaves_first ss m = map_take (slot_entry F) m ss

  pub node_at_first : (ss : List Slot) (m i : ℕ) → filled m i ≡ true → node_at F (leaves F (take m ss)) i ≡ node_at F (leaves F ss) i
  node_at_first ss m =
      by_coordinates (λ i. filled m i ≡ true → node_at F (leaves F (take m ss)) i ≡ node_at F (leaves F ss) i)
      (λ d k h. node_at_index F (leaves F (take m ss)) d k ∙ ap (λ (es : List Entry). node F es d k) (leaves_first ss m)
      ∙ node_first (leaves F ss) m d k (filled_end m d k h) ∙ sym (node_at_index F (leaves F ss) d k))

  -- the item of the root i over the leaf entries of a sequence
  item_of : List Slot → ℕ → List ℕ
  item_of ss i = root_item (node_at F (leaves F ss) i).hash i (node_at F (leaves F ss) i).size

  module _ (hf : HashFunction F) (ss : List Slot) (w : Within ss) (r : Register) (b : Belongs F r ss) (m : ℕ) (h : m ≤ r.n) where
    root_item_lem : (i : ℕ) → filled m i ≡ true → root_item (stored_hash r.tree i) i (stored_size r.tree i) ≡ item_of (take m ss) i
    unfolding item_of
    root_item_lem i f =
        let g : filled r.n i ≡ true = filled_more m r.n h i f in
        let e : node_at F (leaves F ss) i ≡ node_at F (leaves F (take m ss)) i = sym (node_at_first ss m i f) in
        ap₂ (λ (x : List ℕ) (z : ℕ). root_item x i z) (stored_node_hash F hf ss w r b i g ∙ ap (λ (x : Entry). x.hash) e)
        (stored_node_size F hf ss w r b i g ∙ ap (λ (x : Entry). x.size) e)

    first_count : m ≡ length (leaves F (take m ss))
    first_count =
        sym (leaves_length F (take m ss) ∙ length-take-le m ss (omega (arith, b.count)))

    pub first_root_message : stored_root_message r.tree m ≡ root_message_for F (take m ss)
    unfolding stored_root_message root_message_for root_message_of item_of
    first_root_message =
        ap root_message
        (map_ext (λ i. root_item (stored_hash r.tree i) i (stored_size r.tree i)) (item_of (take m ss)) (roots m)
        (λ j l. root_item_lem (get_or (roots m) j 0) (root_filled m j l))
        ∙ ap (λ (k : ℕ). map (item_of (take m ss)) (roots k)) first_count)
