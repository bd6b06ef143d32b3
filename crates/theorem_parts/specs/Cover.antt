-- Lists of parts, and what they cover. A list may name its parts in any order, and they may overlap.
use Rattle.std.specs.Prelude.{ℕ, ◌≤◌, ◌<◌, ◌≡◌, ◌⊎◌, List, [], ◌∷◌}
use Rattle.tree_index.specs.Tree.{entries}
use Rattle.bitfield.specs.Image.{entry_count}

-- a part of an audit: the tree entries, or the bitfield's entries, from a on and before b
pub data Part : Type 0 where
  tree_entries : (a b : ℕ) → Part
  bitfield_entries : (a b : ℕ) → Part

abbrev pub HasEntry : ℕ → Part → Type 0
HasEntry i (tree_entries a b) = (a ≤ i) × (i < b)
HasEntry i (bitfield_entries a b) = ⊥

abbrev pub HasRow : ℕ → Part → Type 0
HasRow e (tree_entries a b) = ⊥
HasRow e (bitfield_entries a b) = (a ≤ e) × (e < b)

-- a part of the comparing walk: the tree indexes from a on and before b
pub record Range : Type 0 where
  pub from : ℕ
  pub to : ℕ

abbrev pub HasIndex : ℕ → Range → Type 0
HasIndex i r = (r.from ≤ i) × (i < r.to)

-- one of a list is such
unfoldable pub Some : {A : Type 0} → (A → Type 0) → List A → Type 0
Some P [] = ⊥
Some P (x ∷ xs) = P x ⊎ Some P xs

-- the parts cover both files of n chunks. The list is not empty: with n = 0 an empty one covers the files, and then no part makes the checks
pub record Covers (n : ℕ) (ps : List Part) : Type 0 where
  pub some : ps ≡ [] → ⊥
  pub tree : (i : ℕ) → i < entries n → Some (HasEntry i) ps
  pub bitfield : (e : ℕ) → e < entry_count n → Some (HasRow e) ps

-- the ranges cover the tree indexes of n chunks
unfoldable pub CoversIndexes : ℕ → List Range → Type 0
CoversIndexes n rs = (i : ℕ) → i < entries n → Some (HasIndex i) rs
