-- A journal that reading accepts: all its files judged, one after the other, and what writing gives then.
use Rattle.std.specs.Prelude.{ℕ, ◌+◌, ◌-◌, ◌≤◌, ◌<◌, ◌≡◌, ◌↔◌, Bool, true, false, List, [], ◌∷◌, length, ltb, Err, Ok, is_ok}
use Rattle.byte_strings.specs.Lists.{part, Bytes}
use Rattle.journal.specs.Ranges.{Range, replaced, fresh, blank, witness, start, Placed}
use Rattle.journal.specs.Form.{Journal, WellFormed, kind_of, size_of, encode_all, front, journal_bytes, old_state, new_state}
use Rattle.journal.specs.Places.{old_at, new_at, file_at, kind_at, start_at, size_at, new_place, behind, body_length}
use Rattle.journal.specs.Reading.{read, next_said, if_done, states_said}
use Rattle.journal.specs.declared.JournalError.TheVariants as error
use Rattle.journal.specs.declared.JournalError.TheVariants.{Unfit}
use Rattle.journal_meeting.specs.Between.{between}
use Rattle.theorem_journal_recovers.specs.Archive.{File, absent, there, contents, Archive, BeforeAll, BetweenFile, SameAll, WritesAll, opened, writes_in, after}
use Rattle.theorem_journal_exact.specs.Exact.{Hashed}

-- the ranges of the file i and of those behind it
unfoldable pub from_file : ℕ → List Placed → List Placed
from_file i [] = []
from_file i (p ∷ ps) = elim (ltb p.file i) [ true ↦ from_file i ps | false ↦ p ∷ ps ]

-- where they begin
unfoldable pub place_in : List ℕ → Journal → ℕ → ℕ
place_in j x i = body_length j - length (encode_all (from_file i x.ranges))

abbrev pub is_there : File → Bool
is_there absent = false
is_there (there f) = true

-- what the call says of the file i, at the place where its ranges begin: done, with the place where the next file's begin
abbrev pub SaysBetween : List ℕ → Journal → ℕ → File → Type 0
SaysBetween j x i f = between j i (place_in j x i) (is_there f) (contents f) ≡ Ok (place_in j x (i + 1))

-- the bytes of a range after the change stand at a place of j; a run of zeros has none there
abbrev pub Shown : List ℕ → ℕ → Range → Type 0
Shown j place (replaced at o n) = part j place (length n) ≡ n
Shown j place (fresh at n) = part j place (length n) ≡ n
Shown j place (blank at k) = Unit {0}
Shown j place (witness at w) = part j place (length w) ≡ w

-- the five numbers at q are those of the range p
pub record Names (j : List ℕ) (q : ℕ) (p : Placed) : Type 0 where
  pub file : file_at j q ≡ p.file
  pub kind : kind_at j q ≡ kind_of p.range
  pub offset : start_at j q ≡ start p.range
  pub size : size_at j q ≡ size_of p.range
  pub shown : Shown j (new_place j q) p.range

-- range by range from q on, each call at the place that the one before answered: the ranges ps in their order, and behind the last none
abbrev pub Gives : List ℕ → ℕ → List Placed → Type 0
Gives j q [] = next_said j q ≡ Err (error.Range q)
Gives j q (p ∷ ps) = (next_said j q ≡ Ok (behind j q)) × Names j q p × Gives j (behind j q) ps

-- what the call on the states of the file i leaves in two numbers lent
abbrev pub states_left : List ℕ → ℕ → List ℕ → List ℕ
states_left j i lent = if_done (states_said j i) (old_at j i ∷ new_at j i ∷ []) lent

-- the claim, of the bytes j that encode the journal x
pub record Judges (j : List ℕ) (x : Journal) : Type 0 where
  -- the first file's ranges begin behind the table, and behind the last file's stands the hash
  pub first : place_in j x 0 ≡ front
  pub last : place_in j x 10 ≡ body_length j
  -- the states that the call answers are the journal's, of ten files and no other
  pub states_done : (i : ℕ) → i < 10 → states_said j i ≡ Ok 0
  pub states : (i : ℕ) → i < 10 → (lent : List ℕ) → states_left j i lent ≡ old_state x i ∷ new_state x i ∷ []
  pub no_file : (i : ℕ) → 10 ≤ i → states_said j i ≡ Err Unfit
  -- the call is exact
  pub exactly : (i : ℕ) → i < 10 → (f : File) → SaysBetween j x i f ↔ BetweenFile x i f
  -- the writes that the calls answer are the journal's
  pub gives : Gives j front x.ranges
  -- so ten calls judge an archive before the first byte is written, and then writes in any order and with any repetition give the archive after
  pub settles : (B A : Archive) → BeforeAll x B → ((i : ℕ) → i < 10 → SaysBetween j x i (A i)) → SameAll x B A → (ws : List Placed) → WritesAll x ws
      → (i : ℕ) → i < 10 → writes_in ws (opened x A) i ≡ after x B i

-- of every well_formed journal, with every F whose hash of it has 32 bytes
abbrev pub JudgesForAll : Type 0
JudgesForAll = (F : List ℕ → List ℕ) (x : Journal) → WellFormed x → Hashed F x → Judges (journal_bytes F x) x

-- so of all bytes that reading accepts, whatever function stands in for BLAKE2b
abbrev pub AcceptedForAll : Type 0
AcceptedForAll = (F : List ℕ → List ℕ) (j : List ℕ) → Bytes j → is_ok (read F j) ≡ true → (x : Journal) × WellFormed x × (j ≡ journal_bytes F x) × Judges j x
