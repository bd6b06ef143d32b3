-- Demand 3: the comparing walk tells two chunk sequences apart, or names a collision of the hash function.
--
-- "demand 3 speaks of their registers, only when each holds all its pieces": of chunks that are all held (`all_held`).
--
-- The notions in it: `HashFunction` (file_format, Messages), `all_held` and `Within` (file_format, Slots), `Register`, `Lent` and `Belongs` (file_format, Belongs), `root_hash_for`,
-- `root_message_for` and `message_for` (file_format, Images), `filled` (tree_index, Tree), `Accepted` (audit, Audit), `compare` and the
-- answers of a comparison (compare, Walk).
use Rattle.std.specs.Prelude.{ℕ, ◌<◌, ◌≡◌, ◌⊎◌, ◌↔◌, ◌≢◌, true, List, length}
use Rattle.byte_strings.specs.Lists.{joined}
use Rattle.tree_index.specs.Tree.{filled}
use Rattle.file_format.specs.Messages.{HashFunction}
use Rattle.file_format.specs.Images.{root_hash_for, root_message_for, message_for}
use Rattle.file_format.specs.Slots.{all_held, Within}
use Rattle.file_format.specs.Belongs.{Register, Lent, Belongs}
use Rattle.audit.specs.Audit.{Accepted}
use Rattle.compare.specs.Walk.{Comparison, roots_differ, at_roots, at_index, equal, compare}

-- a collision: two different messages with one hash
pub record Collision (F : List ℕ → List ℕ) (m₁ m₂ : List ℕ) : Type 0 where
  pub differ : m₁ ≢ m₂
  pub one_hash : F m₁ ≡ F m₂

-- a collision at the tree index i: the messages that are hashed for each of the two sequences there
pub record CollisionAt (F : List ℕ → List ℕ) (cs ds : List (List ℕ)) (i : ℕ) : Type 0 where
  pub in_first : filled (length cs) i ≡ true
  pub in_second : filled (length ds) i ≡ true
  pub collision : Collision F (message_for F (all_held cs) i) (message_for F (all_held ds) i)

-- the answer names a collision
abbrev pub NamesCollision : Comparison → Type 0
NamesCollision w = (w ≡ at_roots) ⊎ ((i : ℕ) × (w ≡ at_index i))

-- what is claimed of the walk's answer on two registers a and b that belong to cs and ds
pub record Tells (F : List ℕ → List ℕ) (a b : Register) (cs ds : List (List ℕ)) : Type 0 where
  -- "equal" exactly when the chunks are the same in the same order
  pub equal_exactly : (compare F a b ≡ equal) ↔ (cs ≡ ds)
  -- "roots differ" exactly when the root hashes differ
  pub roots_differ_exactly : (compare F a b ≡ roots_differ) ↔ (root_hash_for F (all_held cs) ≢ root_hash_for F (all_held ds))
  -- in every other case a collision is named
  pub otherwise : compare F a b ≢ equal → compare F a b ≢ roots_differ → NamesCollision (compare F a b)
  -- "at the roots" exactly when the root messages collide
  pub at_roots_exactly : (compare F a b ≡ at_roots) ↔ Collision F (root_message_for F (all_held cs)) (root_message_for F (all_held ds))
  -- at the tree index i exactly when the root messages are the same, the messages at i collide, and none at a lower index do
  pub at_index_exactly : (i : ℕ)
      → (compare F a b ≡ at_index i)
      ↔ ((root_message_for F (all_held cs) ≡ root_message_for F (all_held ds)) × CollisionAt F cs ds i × ((j : ℕ) → j < i → CollisionAt F cs ds j → ⊥))
  -- equal drawings with different cuts are not one record: the same bytes, cut into other chunks, are never answered "equal"
  pub cuts_tell : joined cs ≡ joined ds → cs ≢ ds → compare F a b ≢ equal
  -- two sequences are equal exactly when their root hashes are equal and the walk names no collision
  pub same_exactly : (cs ≡ ds) ↔ ((root_hash_for F (all_held cs) ≡ root_hash_for F (all_held ds)) × (NamesCollision (compare F a b) → ⊥))

-- the claim, for every function F from byte strings to 32 bytes
pub record Demand3 (F : List ℕ → List ℕ) : Type 0 where
  -- of every two chunk sequences within the limits and every two accepted registers that belong to them
  pub tells : (cs ds : List (List ℕ)) → Within (all_held cs) → Within (all_held ds) → (a b : Register) → Accepted F a → Accepted F b → Belongs F a (all_held cs)
      → Belongs F b (all_held ds) → Tells F a b cs ds
  -- each sequence has an accepted register that belongs to it, in buffers of bytes
  pub has : (cs : List (List ℕ)) → Within (all_held cs) → (r : Register) × Lent r × Accepted F r × Belongs F r (all_held cs)

-- demand 3 whole
abbrev pub Demand3ForAll : Type 0
Demand3ForAll = (F : List ℕ → List ℕ) → HashFunction F → Demand3 F
