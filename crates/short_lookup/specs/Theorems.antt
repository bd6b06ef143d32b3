-- What the short lookups answer on every register that passes the checks 2 to 6, and where the short way and the quick one agree.
--
-- The notions in it: `index` and `filled` (tree_index, Tree), `stored_size`, `stored_start` and `stored_root_sizes` (file_format, Stored), `Register` (file_format, Belongs), `judged` and `register_checks`
-- (checks, Checks), `Accepted` (audit, Audit), `place_of`, `byte_at`, `place_in` and `byte_in` (lookup, Lookup), `Right` (lookup, Theorems),
-- `search_for` (search, Search), `IndexFollows` (search, Theorems), and the short versions (ShortLookup).
use Rattle.std.specs.Prelude.{ℕ, ◌+◌, ◌-◌, ◌≤◌, ◌<◌, ◌≡◌, true, List}
use Rattle.answer_types.specs.Verdict.{none, tree, done}
use Rattle.byte_strings.specs.Lists.{total}
use Rattle.tree_index.specs.Tree.{index, filled}
use Rattle.file_format.specs.Sizes.{most_chunks, longest_chunk}
use Rattle.file_format.specs.Stored.{stored_size, stored_start, stored_root_sizes}
use Rattle.file_format.specs.Belongs.{Register}
use Rattle.checks.specs.Checks.{judged, register_checks}
use Rattle.audit.specs.Audit.{Accepted}
use Rattle.lookup.specs.Lookup.{refusal, found, place_in, byte_in, place_of, byte_at}
use Rattle.lookup.specs.Descent.{always}
use Rattle.lookup.specs.Theorems.{Right}
use Rattle.search.specs.Search.{search_for}
use Rattle.search.specs.Theorems.{IndexFollows}
use Rattle.short_lookup.specs.ShortLookup.{short_place_in, short_byte_in, short_place_of, short_byte_at, short_search_for}

-- ---- every register that passes the checks

-- no leaf of the first m chunks is above 65,536
unfoldable pub LeavesFit : List ℕ → ℕ → Type 0
LeavesFit t m = (k : ℕ) → k < m → stored_size t (index 0 k) ≤ longest_chunk

-- the leaf of chunk k is the first above 65,536
pub record FirstLong (t : List ℕ) (k : ℕ) : Type 0 where
  pub before : LeavesFit t k
  pub long : longest_chunk < stored_size t (index 0 k)

-- what is claimed of the short lookups, whatever the tree file holds
pub record ShortLookups (r : Register) : Type 0 where
  pub place : (c : ℕ) → c < r.n → LeavesFit r.tree (c + 1)
      → short_place_of r c ≡ found (stored_start r.tree c) (stored_size r.tree (index 0 c))
  -- "10 at the first leaf above 65,536 that it comes to, chunk i's own included"
  pub place_long : (c k : ℕ) → c < r.n → k ≤ c → FirstLong r.tree k → short_place_of r c ≡ refusal 10 (tree (index 0 k))
  pub no_place : (c : ℕ) → r.n ≤ c → short_place_of r c ≡ refusal 9 none
  -- the chunk whose bytes contain the offset
  pub byte : (b k : ℕ) → b < r.size → k < r.n → LeavesFit r.tree (k + 1) → stored_start r.tree k ≤ b
      → b < stored_start r.tree k + stored_size r.tree (index 0 k) → short_byte_at r b ≡ found k (b - stored_start r.tree k)
  pub byte_long : (b k : ℕ) → b < r.size → k < r.n → FirstLong r.tree k → stored_start r.tree k ≤ b
      → short_byte_at r b ≡ refusal 10 (tree (index 0 k))
  -- "or at the last leaf where no leaf's bytes contain the offset"
  pub byte_none : (b : ℕ) → b < r.size → LeavesFit r.tree r.n → stored_start r.tree r.n ≤ b
      → short_byte_at r b ≡ refusal 10 (tree (index 0 (r.n - 1)))
  -- a chunk that is answered has the byte, so it is not empty
  pub byte_has : (b k x : ℕ) → b < r.size → short_byte_at r b ≡ found k x
      → (k < r.n) × (stored_start r.tree k + x ≡ b) × (x < stored_size r.tree (index 0 k))
  -- "At the data size it too answers n and 0, reading no leaf."
  pub end : short_byte_at r r.size ≡ found r.n 0
  pub no_byte : (b : ℕ) → r.size < b → short_byte_at r b ≡ refusal 9 none

abbrev pub ShortLookupsForAll : Type 0
ShortLookupsForAll = (r : Register) → judged (register_checks r) done ≡ done → ShortLookups r

-- ---- both ways

-- every filled entry of a tree file of n chunks is right as to its length: a leaf of at most 65,536 bytes, a parent whose length is the sum of its children's
unfoldable pub LengthsRight : List ℕ → ℕ → Type 0
LengthsRight t n = (d k : ℕ) → filled n (index d k) ≡ true → Right t d k

-- then the lookups agree behind the checks 2 to 6, for every chunk number and every offset
pub record AgreeIn (t : List ℕ) (n size : ℕ) : Type 0 where
  pub place : (c : ℕ) → short_place_in always t n c ≡ place_in always t n c
  pub byte : (b : ℕ) → short_byte_in always t n size b ≡ byte_in always t n size b

abbrev pub AgreeInForAll : Type 0
AgreeInForAll =
    (t : List ℕ) (n size : ℕ) → n ≤ most_chunks → total (stored_root_sizes t n) ≡ size → LengthsRight t n → AgreeIn t n size

-- and on every register, refused or not
pub record LookupsAgree (r : Register) : Type 0 where
  pub place : (c : ℕ) → short_place_of r c ≡ place_of r c
  pub byte : (b : ℕ) → short_byte_at r b ≡ byte_at r b

abbrev pub LookupsAgreeForAll : Type 0
LookupsAgreeForAll = (r : Register) → LengthsRight r.tree r.n → LookupsAgree r

-- "The search without the Index agrees wherever the Index follows from the data bits."
abbrev pub SearchAgreesForAll : Type 0
SearchAgreesForAll =
    (r : Register) → IndexFollows r.bitfield r.n → (from : ℕ) → short_search_for r from ≡ search_for r from

-- "On each register that the audit accepts, both give the quick versions' answers."
pub record ShortAgrees (r : Register) : Type 0 where
  pub lookups : LookupsAgree r
  pub search : (from : ℕ) → short_search_for r from ≡ search_for r from

-- whatever function stands in for BLAKE2b in the audit
abbrev pub ShortAgreesForAll : Type 0
ShortAgreesForAll = (F : List ℕ → List ℕ) (r : Register) → Accepted F r → ShortAgrees r
