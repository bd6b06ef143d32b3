-- What the short lookups answer on every copy that passes the checks of a call, case by case, whatever its tree file holds: as on a register, with 20 at the
-- first leaf on the way that is not known.
--
-- The notions in it: `index` (tree_index, Tree), `stored_size` and `stored_start` (file_format, Stored), `LeavesFit` and `FirstLong` (short_lookup, Theorems), `Copy` and
-- `known` (copy_checks, Copy), `copy_judged` (copy_checks, Checks), `copy_short_place_of` and `copy_short_byte_at` (copy_short_lookup, Short).
use Rattle.std.specs.Prelude.{ℕ, ◌+◌, ◌-◌, ◌≤◌, ◌<◌, ◌≡◌, true, false}
use Rattle.answer_types.specs.Verdict.{none, tree, done}
use Rattle.tree_index.specs.Tree.{index}
use Rattle.file_format.specs.Stored.{stored_size, stored_start}
use Rattle.lookup.specs.Lookup.{refusal, found}
use Rattle.short_lookup.specs.Theorems.{LeavesFit, FirstLong}
use Rattle.copy_checks.specs.Copy.{Copy, known}
use Rattle.copy_checks.specs.Checks.{copy_judged}
use Rattle.copy_short_lookup.specs.Short.{copy_short_place_of, copy_short_byte_at}

-- the leaves of the first m chunks are known
unfoldable pub LeavesKnown : Copy → ℕ → Type 0
LeavesKnown c m = (k : ℕ) → k < m → known c (index 0 k) ≡ true

-- the leaf of chunk k is the first that is not
pub record FirstUnknownLeaf (c : Copy) (k : ℕ) : Type 0 where
  pub before : LeavesKnown c k
  pub unknown : known c (index 0 k) ≡ false

pub record CopyShortLookups (c : Copy) : Type 0 where
  pub place : (i : ℕ) → i < c.n → LeavesKnown c (i + 1) → LeavesFit c.tree (i + 1)
      → copy_short_place_of c i ≡ found (stored_start c.tree i) (stored_size c.tree (index 0 i))
  -- "10 at the first leaf above 65,536 that it comes to, chunk i's own included"
  pub place_long : (i k : ℕ) → i < c.n → k ≤ i → LeavesKnown c (k + 1) → FirstLong c.tree k → copy_short_place_of c i ≡ refusal 10 (tree (index 0 k))
  -- and 20 at the first that is not known, if it comes to that one before
  pub place_unknown : (i k : ℕ) → i < c.n → k ≤ i → FirstUnknownLeaf c k → LeavesFit c.tree k → copy_short_place_of c i ≡ refusal 20 (tree (index 0 k))
  pub no_place : (i : ℕ) → c.n ≤ i → copy_short_place_of c i ≡ refusal 9 none
  -- the chunk whose bytes contain the offset
  pub byte : (b k : ℕ) → b < c.size → k < c.n → LeavesKnown c (k + 1) → LeavesFit c.tree (k + 1) → stored_start c.tree k ≤ b
      → b < stored_start c.tree k + stored_size c.tree (index 0 k) → copy_short_byte_at c b ≡ found k (b - stored_start c.tree k)
  pub byte_long : (b k : ℕ) → b < c.size → k < c.n → LeavesKnown c (k + 1) → FirstLong c.tree k → stored_start c.tree k ≤ b
      → copy_short_byte_at c b ≡ refusal 10 (tree (index 0 k))
  pub byte_unknown : (b k : ℕ) → b < c.size → k < c.n → FirstUnknownLeaf c k → LeavesFit c.tree k → stored_start c.tree k ≤ b
      → copy_short_byte_at c b ≡ refusal 20 (tree (index 0 k))
  -- "or at the last leaf where no leaf's bytes contain the offset"
  pub byte_none : (b : ℕ) → b < c.size → LeavesKnown c c.n → LeavesFit c.tree c.n → stored_start c.tree c.n ≤ b
      → copy_short_byte_at c b ≡ refusal 10 (tree (index 0 (c.n - 1)))
  -- a chunk that is answered has the byte, so it is not empty
  pub byte_has : (b k x : ℕ) → b < c.size → copy_short_byte_at c b ≡ found k x
      → (k < c.n) × (stored_start c.tree k + x ≡ b) × (x < stored_size c.tree (index 0 k))
  -- "At the data size it too answers n and 0, reading no leaf."
  pub end : copy_short_byte_at c c.size ≡ found c.n 0
  pub no_byte : (b : ℕ) → c.size < b → copy_short_byte_at c b ≡ refusal 9 none

abbrev pub CopyShortLookupsForAll : Type 0
CopyShortLookupsForAll = (c : Copy) → copy_judged c done ≡ done → CopyShortLookups c
