-- The numbers that stand for what a call says.
use Rattle.std.specs.Prelude.{ℕ, ◌-◌, ◌≤◌, ◌≡◌, List, [], ◌∷◌}
use Rattle.answer_types.specs.Verdict.{Verdict, none, tree, bitfield, done, refused}
use Rattle.lookup.specs.Lookup.{Found, refusal, found}
use Rattle.byte_strings.specs.Lowest.{nowhere, first}
use Rattle.search.specs.Search.{Sought, refusal as unsought, answer as sought}

-- three numbers: 0 where the call is done, else the refusal's number; the place's kind, which is 0 for none, 1 for a tree index, 2 for a byte
-- offset in the bitfield file; and the place
abbrev pub encoded : Verdict → List ℕ
encoded done = 0 ∷ 0 ∷ 0 ∷ []
encoded (refused number none) = number ∷ 0 ∷ 0 ∷ []
encoded (refused number (tree i)) = number ∷ 1 ∷ i ∷ []
encoded (refused number (bitfield b)) = number ∷ 2 ∷ b ∷ []

-- what a call that gives two numbers says: done, or its refusal
abbrev pub verdict_of : Found → Verdict
verdict_of (refusal number at) = refused number at
verdict_of (found a b) = done

-- what the two numbers lent to it are after it
abbrev pub numbers_unless : Found → List ℕ → List ℕ
numbers_unless (refusal number at) before = before
numbers_unless (found a b) before = a ∷ b ∷ []

-- a call that finds f: its answer, and the two numbers lent to it before and after
pub record Gives (f : Found) (before answer after : List ℕ) : Type 0 where
  pub answers : answer ≡ encoded (verdict_of f)
  pub numbers : after ≡ numbers_unless f before

-- a part that is found by its start and its end, as its start and its length
abbrev pub as_part : Found → Found
as_part (refusal number at) = refusal number at
as_part (found from end) = found from (end - from)

-- such a part ends where it begins, or behind
abbrev pub Ordered : Found → Type 0
Ordered f = (from end : ℕ) → f ≡ found from end → from ≤ end

-- a search, as two numbers: 1 and the chunk, or 0 and 0 where there is none
abbrev pub as_found : Sought → Found
as_found (unsought number at) = refusal number at
as_found (sought nowhere) = found 0 0
as_found (sought (first c)) = found 1 c
