-- "Someone with the files will write the simplest program. Keep one here: lookups that add up leaf lengths from chunk 0, and a search that reads data
-- bits in order."
use Rattle.std.specs.Prelude.{ℕ, ◌+◌, ◌-◌, Bool, cond, ◌&&◌, List, leb, ltb, eqb}
use Rattle.answer_types.specs.Verdict.{none, tree, done}
use Rattle.byte_strings.specs.Lowest.{nowhere, first, lowest}
use Rattle.tree_index.specs.Tree.{index}
use Rattle.bitfield.specs.Release.{stored_held}
use Rattle.file_format.specs.Sizes.{longest_chunk}
use Rattle.file_format.specs.Stored.{stored_size, stored_start}
use Rattle.file_format.specs.Belongs.{Register}
use Rattle.checks.specs.Checks.{judged, register_checks}
use Rattle.lookup.specs.Descent.{always}
use Rattle.lookup.specs.Lookup.{Found, refusal, found, found_behind}
use Rattle.search.specs.Search.{Sought, sought_unless}

-- `known` is the test for the entries that may be read: of a register all, of a copy those that it knows
module _ (known : ℕ → Bool) (t : List ℕ) where
  -- whether a walk over the leaves goes on from that of chunk k: it is known, and not above 65,536
  unfoldable pub leaf_right : ℕ → Bool
  leaf_right k = known (index 0 k) && leb (stored_size t (index 0 k)) longest_chunk

  -- where it does not: "a short lookup refuses with 10 at the first leaf above 65,536 that it comes to", and with 20 at one that is not known, whose length
  -- is not read
  unfoldable pub leaf_refused : ℕ → Found
  leaf_refused k = refusal (cond (known (index 0 k)) 10 20) (tree (index 0 k))

  -- start and length of chunk c: `stored_start` adds up the leaf lengths before it. The leaves from 0 to c are judged, "chunk i's own included"
  unfoldable pub place_by_leaves : ℕ → Found
  place_by_leaves c =
      elim (lowest leaf_right 0 (c + 1)) [ nowhere ↦ found (stored_start t c) (stored_size t (index 0 c)) | first k ↦ leaf_refused k ]

  -- whether a byte lookup goes on behind the leaf of chunk k: the offset b lies behind its bytes
  unfoldable pub leaf_passed : ℕ → ℕ → Bool
  leaf_passed b k = leaf_right k && leb (stored_start t k + stored_size t (index 0 k)) b

  -- the chunk, among n, whose bytes contain offset b, and b less its start; 10 "at the last leaf where no leaf's bytes contain the offset"
  unfoldable pub byte_by_leaves : ℕ → ℕ → Found
  byte_by_leaves n b =
      elim (lowest (leaf_passed b) 0 n) [
        | nowhere ↦ refusal 10 (tree (index 0 (n - 1)))
        | first k ↦ cond (leaf_right k) (found k (b - stored_start t k)) (leaf_refused k)
      ]

  -- "9. The chunk number is not below n", before any leaf
  unfoldable pub short_place_in : ℕ → ℕ → Found
  short_place_in n c = cond (ltb c n) (place_by_leaves c) (refusal 9 none)

  -- 9 for offsets above the data size. "At the data size it too answers n and 0, reading no leaf."
  unfoldable pub short_byte_in : ℕ → ℕ → ℕ → Found
  short_byte_in n size b = cond (ltb size b) (refusal 9 none) (cond (eqb b size) (found n 0) (byte_by_leaves n b))

-- the numbers 2 to 6, and then the lookups and the search
unfoldable pub short_place_of : Register → ℕ → Found
short_place_of r c = found_behind (judged (register_checks r) done) (short_place_in always r.tree r.n c)

unfoldable pub short_byte_at : Register → ℕ → Found
short_byte_at r b = found_behind (judged (register_checks r) done) (short_byte_in always r.tree r.n r.size b)

-- the first chunk from a given number on, below n, whose data bit is 0, or none
unfoldable pub short_search_for : Register → ℕ → Sought
short_search_for r from =
    sought_unless (judged (register_checks r) done) (lowest (stored_held r.bitfield) from (r.n - from))
