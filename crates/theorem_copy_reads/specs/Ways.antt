-- "20 .. that would read an unknown entry, which is the place: a root, from the left, just before 6; any other in 10's turn when the call comes to it": the place
-- of a descent's 20 is not known, and lies on the way to what is sought.
--
-- The notions in it: `index`, `depth`, `block` and `roots` (tree_index, Tree), `stored_size` (file_format, Stored), `Visits`, `HoldsChunk` and `HoldsByte` (lookup,
-- Theorems), `Copy` and `known` (copy_checks, Copy), `copy_judged` (copy_checks, Checks), `copy_to_chunk` and `copy_to_byte` (copy_checks,
-- Descents), and the verdicts and answers (copy_lookup, Lookups; copy_short_lookup, Short; copy_roots, Roots; copy_stored_leaf, StoredLeaf).
use Rattle.std.specs.Prelude.{ℕ, suc, ◌+◌, ◌*◌, ◌^◌, ◌≤◌, ◌<◌, ◌≡◌, true, false, ◌⊎◌, List, [], ◌∷◌, ◌++◌, map}
use Rattle.answer_types.specs.Verdict.{Spot, tree, done, refused}
use Rattle.byte_strings.specs.Lists.{total, among}
use Rattle.tree_index.specs.Tree.{index, depth, block, roots}
use Rattle.file_format.specs.Sizes.{most_chunks}
use Rattle.file_format.specs.Stored.{stored_size}
use Rattle.lookup.specs.Descent.{unknown}
use Rattle.lookup.specs.Lookup.{refusal}
use Rattle.lookup.specs.Theorems.{Visits, HoldsChunk, HoldsByte}
use Rattle.copy_checks.specs.Copy.{Copy, known}
use Rattle.copy_checks.specs.Checks.{copy_judged}
use Rattle.copy_checks.specs.Descents.{copy_to_chunk, copy_to_byte}
use Rattle.copy_lookup.specs.Lookups.{copy_place_of, copy_held_place_of, copy_byte_at}
use Rattle.copy_short_lookup.specs.Short.{copy_short_place_of, copy_short_byte_at}
use Rattle.copy_roots.specs.Roots.{copy_prefix_verdict}
use Rattle.copy_stored_leaf.specs.StoredLeaf.{copy_leaf_verdict}

-- what is sought lies behind the roots `before`: chunk c, and the byte at offset b
abbrev pub ChunkBehind : ℕ → List ℕ → Type 0
ChunkBehind c [] = Unit {0}
ChunkBehind c (i ∷ before) = ((block i + 1) * 2 ^ depth i ≤ c) × ChunkBehind c before

abbrev pub ByteBehind : List ℕ → ℕ → List ℕ → Type 0
ByteBehind t b before = total (map (stored_size t) before) ≤ b

-- a root that is not right of the one which has what is sought
pub record RootOnWay (n : ℕ) (Behind : List ℕ → Type 0) (j : ℕ) : Type 0 where
  pub before : List ℕ
  pub after : List ℕ
  pub here : roots n ≡ before ++ (j ∷ after)
  pub behind : Behind before

-- a child of a parent that is visited on the way to what is sought: all above that parent are the sums of their children
pub record ChildOnWay (t : List ℕ) (n : ℕ) (Has : ℕ → ℕ → ℕ → Type 0) (j : ℕ) : Type 0 where
  pub d : ℕ
  pub k : ℕ
  pub start : ℕ
  pub visited : Visits t n (suc d) k start
  pub has : Has (suc d) k start
  pub here : (j ≡ index d (2 * k)) ⊎ (j ≡ index d (2 * k + 1))

-- an unknown entry on the way
pub record Met (c : Copy) (Behind : List ℕ → Type 0) (Has : ℕ → ℕ → ℕ → Type 0) (j : ℕ) : Type 0 where
  pub unknown : known c j ≡ false
  pub way : RootOnWay c.n Behind j ⊎ ChildOnWay c.tree c.n Has j

-- of every copy
pub record Meets (c : Copy) : Type 0 where
  pub chunk : (i : ℕ) → c.n ≤ most_chunks → i < c.n → (j : ℕ) → copy_to_chunk c i ≡ unknown j → Met c (ChunkBehind i) (HoldsChunk i) j
  pub byte : (b : ℕ) (j : ℕ) → copy_to_byte c b ≡ unknown j → Met c (ByteBehind c.tree b) (HoldsByte c.tree b) j

-- "a root, from the left": those left of it are known
pub record FromLeft (c : Copy) (j : ℕ) : Type 0 where
  pub before : List ℕ
  pub after : List ℕ
  pub here : roots c.n ≡ before ++ (j ∷ after)
  pub left : (i : ℕ) → among i before ≡ true → known c i ≡ true

abbrev pub RootsKnown : Copy → Type 0
RootsKnown c = (i : ℕ) → among i (roots c.n) ≡ true → known c i ≡ true

-- a call's 20: at the first unknown root from the left, or, where every root is known, at another entry that it comes to. Its place is not known
pub record Twenty (c : Copy) (Other : ℕ → Type 0) (at : Spot) : Type 0 where
  pub j : ℕ
  pub here : at ≡ tree j
  pub unknown : known c j ≡ false
  pub way : FromLeft c j ⊎ (RootsKnown c × Other j)

-- the leaf of one of the first m chunks
abbrev pub LeafBelow : ℕ → ℕ → Type 0
LeafBelow m j = (k : ℕ) × (k < m) × (j ≡ index 0 k)

pub record Twenties (c : Copy) : Type 0 where
  pub place : (i : ℕ) (at : Spot) → copy_place_of c i ≡ refusal 20 at → Twenty c (ChildOnWay c.tree c.n (HoldsChunk i)) at
  -- of a read, a packet, a release, a record
  pub held : (i : ℕ) (at : Spot) → copy_held_place_of c i ≡ refusal 20 at → Twenty c (ChildOnWay c.tree c.n (HoldsChunk i)) at
  pub byte : (b : ℕ) (at : Spot) → copy_byte_at c b ≡ refusal 20 at → Twenty c (ChildOnWay c.tree c.n (HoldsByte c.tree b)) at
  -- the short way reads leaves, up to chunk i's own
  pub short_place : (i : ℕ) (at : Spot) → copy_short_place_of c i ≡ refusal 20 at → Twenty c (LeafBelow (i + 1)) at
  pub short_byte : (b : ℕ) (at : Spot) → copy_short_byte_at c b ≡ refusal 20 at → Twenty c (LeafBelow c.n) at
  -- of the root hash of the first m chunks their roots are read
  pub old : (m : ℕ) (at : Spot) → copy_prefix_verdict c m ≡ refused 20 at → Twenty c (λ j. (m ≤ c.n) × (among j (roots m) ≡ true)) at
  -- of a stored leaf entry that leaf
  pub leaf : (k : ℕ) (at : Spot) → copy_leaf_verdict c k ≡ refused 20 at → Twenty c (λ j. (k < c.n) × (j ≡ index 0 k)) at
  -- and of the root hash and the searches the roots alone
  pub checks : (at : Spot) → copy_judged c done ≡ refused 20 at → Twenty c (λ j. ⊥) at

abbrev pub MeetsForAll : Type 0
MeetsForAll = (c : Copy) → Meets c × Twenties c
