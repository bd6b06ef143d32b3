-- The place lookup and the byte lookup.
use Rattle.std.specs.Prelude.{ℕ, ◌-◌, Bool, cond, List, ltb, eqb}
use Rattle.answer_types.specs.Verdict.{Spot, Verdict, none, tree, done, refused}
use Rattle.tree_index.specs.Tree.{index}
use Rattle.bitfield.specs.Release.{stored_held}
use Rattle.file_format.specs.Stored.{stored_size}
use Rattle.file_format.specs.Belongs.{Register}
use Rattle.checks.specs.Checks.{judged, register_checks}
use Rattle.lookup.specs.Descent.{Ending, stopped, reached, unknown, always, chunk_within, byte_within, descent}

-- what a lookup answers: a refusal, or two numbers
pub data Found : Type 0 where
  refusal : ℕ → Spot → Found
  found : ℕ → ℕ → Found

-- what a lookup finds, behind the verdict of the checks
abbrev pub found_behind : Verdict → Found → Found
found_behind done f = f
found_behind (refused m at) f = refusal m at

-- "10. A lookup stops": the place is the tree index where it does; 20 where it would read an unknown entry, which is the place.
-- Where the descent comes to a leaf: "A place lookup gives start and length of chunk i."
abbrev pub place_from : List ℕ → ℕ → Ending → Found
place_from t c (stopped i) = refusal 10 (tree i)
place_from t c (unknown i) = refusal 20 (tree i)
place_from t c (reached k start) = found start (stored_size t (index 0 c))

-- "A byte lookup gives the chunk whose bytes contain offset b, and b less its start."
abbrev pub byte_from : ℕ → Ending → Found
byte_from b (stopped i) = refusal 10 (tree i)
byte_from b (unknown i) = refusal 20 (tree i)
byte_from b (reached k start) = found k (b - start)

-- what the lookups give behind the checks of a call, of a tree file of n chunks
module _ (known : ℕ → Bool) (t : List ℕ) (n : ℕ) where
  -- "9. The chunk number is not below n"
  unfoldable pub place_in : ℕ → Found
  place_in c = cond (ltb c n) (place_from t c (descent known (chunk_within c) t n)) (refusal 9 none)

  -- "It refuses with 18, just after 9, a read, the making of a packet, a release .. that needs a chunk not held; the place is its leaf's tree index": the
  -- place of a chunk that must be held. It is held where its stored data bit is 1
  unfoldable pub held_place_in : List ℕ → ℕ → Found
  held_place_in bits c =
      cond (ltb c n) (cond (stored_held bits c) (place_from t c (descent known (chunk_within c) t n)) (refusal 18 (tree (index 0 c)))) (refusal 9 none)

  -- "From now on a byte lookup at the data size answers chunk number n and 0, also in an empty register. 9 remains for larger offsets." No walk is made there
  unfoldable pub byte_in : ℕ → ℕ → Found
  byte_in size b = cond (ltb size b) (refusal 9 none) (cond (eqb b size) (found n 0) (byte_from b (descent known (byte_within b) t n)))

-- the numbers 2 to 6, and then the lookups
unfoldable pub place_of : Register → ℕ → Found
place_of r c = found_behind (judged (register_checks r) done) (place_in always r.tree r.n c)

unfoldable pub held_place_of : Register → ℕ → Found
held_place_of r c = found_behind (judged (register_checks r) done) (held_place_in always r.tree r.n r.bitfield c)

unfoldable pub byte_at : Register → ℕ → Found
byte_at r b = found_behind (judged (register_checks r) done) (byte_in always r.tree r.n r.size b)

-- the descents that they make
unfoldable pub to_chunk : Register → ℕ → Ending
to_chunk r c = descent always (chunk_within c) r.tree r.n

unfoldable pub to_byte : Register → ℕ → Ending
to_byte r b = descent always (byte_within b) r.tree r.n
