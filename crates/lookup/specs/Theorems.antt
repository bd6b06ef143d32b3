-- Demand 2, of reads and lookups: "reading gives back the very chunks", and lookups answer as the scope defines them.
--
-- The notions in it: `HashFunction` (file_format, Messages), `Slot` and `Within` (file_format, Slots), `Register` and `Belongs` (file_format, Belongs), `data_size` (file_format, Images),
-- `judged` and `register_checks` (checks, Checks), `place_of` and `byte_at` (Lookup), `read_verdict` and `read_part` (Read).
use Rattle.std.specs.Prelude.{ℕ, zero, suc, ◌+◌, ◌-◌, ◌*◌, ◌/◌, ◌^◌, ◌≤◌, ◌<◌, ◌≡◌, true, false, List, [], ◌∷◌, ◌++◌, map, length, get_or, take}
use Rattle.answer_types.specs.Verdict.{none, tree, done, refused}
use Rattle.byte_strings.specs.Lists.{total}
use Rattle.tree_index.specs.Tree.{index, roots}
use Rattle.file_format.specs.Sizes.{longest_chunk}
use Rattle.file_format.specs.Messages.{HashFunction}
use Rattle.file_format.specs.Images.{data_size}
use Rattle.file_format.specs.Stored.{stored_size}
use Rattle.file_format.specs.Slots.{Slot, contents, held_in, Within}
use Rattle.file_format.specs.Belongs.{Register, Belongs}
use Rattle.checks.specs.Checks.{judged, register_checks}
use Rattle.lookup.specs.Descent.{stopped, reached}
use Rattle.lookup.specs.Lookup.{to_chunk, to_byte, refusal, found, place_of, byte_at}
use Rattle.lookup.specs.Read.{chunk_bytes, read_verdict, read_part}

-- where chunk i starts: behind the chunks before it
unfoldable pub start_in : List (List ℕ) → ℕ → ℕ
start_in cs i = data_size (take i cs)

-- the byte at offset b is one of chunk k; an empty chunk has none
pub record HasByte (cs : List (List ℕ)) (b k : ℕ) : Type 0 where
  pub below : k < length cs
  pub from : start_in cs k ≤ b
  pub to : b < start_in cs k + length (get_or cs k [])

-- what is claimed of a register that passes the checks 2 to 6 and belongs to the chunks ss, held or released, whose bytes are cs
pub record Answers (F : List ℕ → List ℕ) (r : Register) (ss : List Slot) (cs : List (List ℕ)) : Type 0 where
  -- "A place lookup gives start and length of chunk i."
  pub place : (i : ℕ) → i < length cs → place_of r i ≡ found (start_in cs i) (length (get_or cs i []))
  pub no_place : (i : ℕ) → length cs ≤ i → place_of r i ≡ refusal 9 none
  -- "A byte lookup gives the chunk whose bytes contain offset b, and b less its start."
  pub byte : (b k : ℕ) → HasByte cs b k → byte_at r b ≡ found k (b - start_in cs k)
  -- each offset below the data size is in one chunk, and in no other
  pub one : (b : ℕ) → b < data_size cs → (k : ℕ) × HasByte cs b k
  pub no_other : (b k l : ℕ) → HasByte cs b k → HasByte cs b l → k ≡ l
  -- "a byte lookup at the data size answers chunk number n and 0, also in an empty register. 9 remains for larger offsets."
  pub end : byte_at r (data_size cs) ≡ found (length cs) 0
  pub no_byte : (b : ℕ) → data_size cs < b → byte_at r b ≡ refusal 9 none
  -- "reading gives back the very chunks": "restoring the chunks speaks for held ones"
  pub read_done : (i : ℕ) → held_in ss i ≡ true → read_verdict F r i ≡ done
  pub read : (i : ℕ) → held_in ss i ≡ true → read_part F r i ≡ get_or cs i []
  -- "18, just after 9, a read .. that needs a chunk not held; the place is its leaf's tree index"
  pub not_held : (i : ℕ) → i < length cs → held_in ss i ≡ false → read_verdict F r i ≡ refused 18 (tree (index 0 i))
  pub no_read : (i : ℕ) → length cs ≤ i → read_verdict F r i ≡ refused 9 none

-- for every function F from byte strings to 32 bytes
abbrev pub AnswersForAll : Type 0
AnswersForAll =
    (F : List ℕ → List ℕ) → HashFunction F → (ss : List Slot) → Within ss → (r : Register) → Belongs F r ss
    → judged (register_checks r) done ≡ done → Answers F r ss (contents ss)

-- a node at which a lookup does not stop: a leaf of at most 65,536 bytes, a parent whose length is the sum of its children's
abbrev pub Right : List ℕ → ℕ → ℕ → Type 0
Right t zero k = stored_size t (index 0 k) ≤ longest_chunk
Right t (suc d) k = stored_size t (index (suc d) k) ≡ stored_size t (index d (2 * k)) + stored_size t (index d (2 * k + 1))

-- "walk from a root down .. through stored lengths": the block k of 2^d chunks may be visited among n chunks, and its bytes begin at `start`.
-- A root's begin behind the lengths of the roots before it. From a parent that was visited, and is right, the way goes on to either child; the
-- right one's bytes begin behind the left one's.
pub data Visits (t : List ℕ) (n : ℕ) : ℕ → ℕ → ℕ → Type 0 where
  from_root : (before after : List ℕ) (d k : ℕ) → roots n ≡ before ++ (index d k ∷ after) → Visits t n d k (total (map (stored_size t) before))
  to_left : (d k start : ℕ) → Visits t n (suc d) k start → Right t (suc d) k → Visits t n d (2 * k) start
  to_right : (d k start : ℕ) → Visits t n (suc d) k start → Right t (suc d) k
      → Visits t n d (2 * k + 1) (start + stored_size t (index d (2 * k)))

-- the block k of 2^d chunks has chunk c; the one whose bytes begin at `start` has the byte at offset b
abbrev pub HoldsChunk : ℕ → ℕ → ℕ → ℕ → Type 0
HoldsChunk c d k start = k ≡ c / 2 ^ d

abbrev pub HoldsByte : List ℕ → ℕ → ℕ → ℕ → ℕ → Type 0
HoldsByte t b d k start = (start ≤ b) × (b < start + stored_size t (index d k))

-- a leaf that a descent reaches in a register, its bytes beginning at `start`
pub record Lies (r : Register) (k start : ℕ) : Type 0 where
  pub below : k < r.n
  -- they lie within the data
  pub inside : start + stored_size r.tree (index 0 k) ≤ r.size
  -- every node on the way to it is right, and so is the leaf
  pub visited : Visits r.tree r.n 0 k start
  pub fits : Right r.tree 0 k

-- a tree index at which a lookup stops: "a visited parent whose length isn't the sum of its children's, or a visited leaf above 65,536". It is
-- that of the block which has what is sought at its depth; all above it are right
pub record Stops (r : Register) (Has : ℕ → ℕ → ℕ → Type 0) (i : ℕ) : Type 0 where
  pub d : ℕ
  pub k : ℕ
  pub start : ℕ
  pub here : i ≡ index d k
  pub visited : Visits r.tree r.n d k start
  pub has : Has d k start
  pub wrong : Right r.tree d k → ⊥

-- what is claimed of every register that passes the checks 2 to 6, whatever else its tree file holds
pub record LookupsStayInside (r : Register) : Type 0 where
  -- the descent to a chunk reaches this chunk or none
  pub chunk : (c : ℕ) → c < r.n → (k start : ℕ) → to_chunk r c ≡ reached k start → (k ≡ c) × Lies r k start
  -- the descent to a byte reaches a chunk whose bytes contain it, or none
  pub byte : (b : ℕ) → b < r.size → (k start : ℕ) → to_byte r b ≡ reached k start → HoldsByte r.tree b 0 k start × Lies r k start
  -- a descent stops nowhere else than on the way to what is sought, at the first node that is wrong
  pub chunk_stops : (c : ℕ) → c < r.n → (i : ℕ) → to_chunk r c ≡ stopped i → Stops r (HoldsChunk c) i
  pub byte_stops : (b : ℕ) → b < r.size → (i : ℕ) → to_byte r b ≡ stopped i → Stops r (HoldsByte r.tree b) i
  -- at the data size there is no descent, so nothing stops it: n and 0
  pub end : byte_at r r.size ≡ found r.n 0
  pub no_byte : (b : ℕ) → r.size < b → byte_at r b ≡ refusal 9 none
  -- what a read hands back is as long as the leaf says
  pub read : (c : ℕ) → c < r.n → (k start : ℕ) → to_chunk r c ≡ reached k start
      → length (chunk_bytes r c) ≡ stored_size r.tree (index 0 c)

abbrev pub LookupsStayInsideForAll : Type 0
LookupsStayInsideForAll = (r : Register) → judged (register_checks r) done ≡ done → LookupsStayInside r
