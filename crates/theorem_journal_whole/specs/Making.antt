-- A journal made: begin, a call for each range, the end.
use Rattle.std.specs.Prelude.{ℕ, ◌+◌, ◌-◌, ◌≤◌, ◌≡◌, ◌↔◌, true, List, [], ◌∷◌, length, take, Ok, is_ok}
use Rattle.byte_strings.specs.Lists.{Bytes}
use Rattle.file_format.specs.Messages.{HashFunction}
use Rattle.journal.specs.Ranges.{Range, replaced, fresh, blank, witness, start, Placed}
use Rattle.journal.specs.Form.{Journal, WellFormed, kind_of, size_of, encode, front, hash_bytes, long_of, body, journal_bytes}
use Rattle.journal.specs.Reading.{Said, read}
use Rattle.journal_making.specs.Making.{begin_said, begun, put_said, put_after, end_said, end_after}
use Rattle.theorem_journal_exact.specs.Exact.{Hashed}

-- the old and the new bytes that a range is put with; a witness's are old ones
abbrev pub old_bytes : Range → List ℕ
old_bytes (replaced at o n) = o
old_bytes (fresh at n) = []
old_bytes (blank at k) = []
old_bytes (witness at w) = w

abbrev pub new_bytes : Range → List ℕ
new_bytes (replaced at o n) = n
new_bytes (fresh at n) = n
new_bytes (blank at k) = []
new_bytes (witness at w) = []

-- what the call says that puts a range at q into the buffer j, and the buffer then
abbrev pub says_put : List ℕ → ℕ → Placed → Said
says_put j q p = put_said j q p.file (kind_of p.range) (size_of p.range) (old_bytes p.range) (new_bytes p.range)

abbrev pub after_put : List ℕ → ℕ → Placed → List ℕ
after_put j q p = put_after j q p.file (kind_of p.range) (start p.range) (size_of p.range) (old_bytes p.range) (new_bytes p.range)

-- the place behind it
abbrev pub behind_put : ℕ → Placed → ℕ
behind_put q p = q + length (encode p)

-- ranges put from q on, each at the place that the call before answered: every call is done, and the buffer then
abbrev pub PutsDone : List ℕ → ℕ → List Placed → Type 0
PutsDone j q [] = Unit {0}
PutsDone j q (p ∷ ps) = (says_put j q p ≡ Ok (behind_put q p)) × PutsDone (after_put j q p) (behind_put q p) ps

abbrev pub put_all : List ℕ → ℕ → List Placed → List ℕ
put_all j q [] = j
put_all j q (p ∷ ps) = put_all (after_put j q p) (behind_put q p) ps

-- the buffer before the end, and where the ranges end
abbrev pub filled : Journal → List ℕ → List ℕ
filled x j = put_all (begun x.states j) front x.ranges

abbrev pub ranges_end : Journal → ℕ
ranges_end x = long_of x - hash_bytes

-- the claim, of a well_formed journal x and a buffer j that has room for it: all calls are done, and then the buffer begins with the journal's bytes
pub record Makes (F : List ℕ → List ℕ) (x : Journal) (j : List ℕ) : Type 0 where
  pub begins : begin_said j ≡ Ok front
  pub puts : PutsDone (begun x.states j) front x.ranges
  pub ends : end_said (filled x j) (ranges_end x) ≡ Ok (long_of x)
  pub bytes : take (long_of x) (end_after F (filled x j) (ranges_end x)) ≡ journal_bytes F x

-- of every well_formed journal, with every F whose hash of it has 32 bytes, in every buffer with room
abbrev pub MakesForAll : Type 0
MakesForAll = (F : List ℕ → List ℕ) (x : Journal) → WellFormed x → Hashed F x → (j : List ℕ) → long_of x ≤ length j → Makes F x j

-- what the end seals at q
abbrev pub sealed_bytes : (List ℕ → List ℕ) → List ℕ → ℕ → List ℕ
sealed_bytes F j q = take (q + hash_bytes) (end_after F j q)

-- the claim, of a buffer j where the end at q is done, however it was filled: it seals a well_formed journal, and reading accepts that
pub record Seals (F : List ℕ → List ℕ) (j : List ℕ) (q : ℕ) : Type 0 where
  pub journal : Journal
  pub formed : WellFormed journal
  pub before : take q (end_after F j q) ≡ body journal
  pub bytes : Hashed F journal → sealed_bytes F j q ≡ journal_bytes F journal
  -- reading accepts it exactly where its hash has 32 bytes
  pub exactly : (read F (sealed_bytes F j q) ≡ Ok (q + hash_bytes)) ↔ Hashed F journal
  -- so always with a function F from byte strings to 32 bytes
  pub accepted : HashFunction F → read F (sealed_bytes F j q) ≡ Ok (q + hash_bytes)

-- of every buffer, whatever function stands in for BLAKE2b
abbrev pub SealsForAll : Type 0
SealsForAll = (F : List ℕ → List ℕ) (j : List ℕ) (q : ℕ) → Bytes j → is_ok (end_said j q) ≡ true → Seals F j q
