-- What C is answered.
use Rattle.std.specs.Prelude.{ℕ}
use Rattle.answer_types.specs.Verdict.{Verdict, done, refused}

-- 0 where the call was done, else the number of the refusal: those begin with 1
abbrev pub number_of : Verdict → ℕ
number_of done = 0
number_of (refused number place) = number
