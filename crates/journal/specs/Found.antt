-- What the code found at a place of a journal.
use Rattle.std.specs.Prelude.{ℕ, ◌≡◌, true, List, [], ◌∷◌}
use Rattle.journal.specs.declared.ranges.RangeAt.{RangeAt}
use Rattle.journal.specs.Kinds.{number_of}
use Rattle.journal.specs.Places.{file_at, kind_at, start_at, size_at, behind, whole, new_place}

-- its numbers and places are those of the range at q
pub record Reads (j : List ℕ) (q : ℕ) (r : RangeAt) : Type 0 where
  pub at : r.at ≡ q
  pub file : r.file ≡ file_at j q
  pub kind : number_of r.kind ≡ kind_at j q
  pub offset : r.offset ≡ start_at j q
  pub size : r.size ≡ size_at j q
  pub bytes : r.bytes ≡ new_place j q
  pub behind : r.behind ≡ behind j q

-- it is the range at q, a whole one up to m
pub record IsRangeAt (j : List ℕ) (m q : ℕ) (r : RangeAt) : Type 0 where
  pub is : whole j m q ≡ true
  pub reads : Reads j q r

-- a range as five numbers
abbrev pub numbers_of : RangeAt → List ℕ
numbers_of r = r.file ∷ number_of r.kind ∷ r.offset ∷ r.size ∷ r.bytes ∷ []
