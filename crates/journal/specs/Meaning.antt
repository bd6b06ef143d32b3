-- What a call on a journal says, as two numbers.
use Rattle.std.specs.Prelude.{ℕ, List, [], ◌∷◌, Ok, Err}
use Rattle.journal.specs.Reading.{Said}
use Rattle.journal.specs.declared.JournalError.TheVariants.{Length, First, OwnLength, State, Range, Gap, Hash, NotBetween, Byte, Unfit}

-- the numbers of FORMAT.md, "The journal": "its numbers are its own, and no numbers of a register's calls"; then the place, 0 where there is none. 10 is the caller's
-- error
abbrev pub encoded : Said → List ℕ
encoded (Ok p) = 0 ∷ p ∷ []
encoded (Err Length) = 1 ∷ 0 ∷ []
encoded (Err First) = 2 ∷ 0 ∷ []
encoded (Err OwnLength) = 3 ∷ 0 ∷ []
encoded (Err (State i)) = 4 ∷ i ∷ []
encoded (Err (Range q)) = 5 ∷ q ∷ []
encoded (Err (Gap i)) = 6 ∷ i ∷ []
encoded (Err Hash) = 7 ∷ 0 ∷ []
encoded (Err (NotBetween i)) = 8 ∷ i ∷ []
encoded (Err (Byte o)) = 9 ∷ o ∷ []
encoded (Err Unfit) = 10 ∷ 0 ∷ []
