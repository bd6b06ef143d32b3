-- The two calls: what they say, and what stands in the lent buffer afterwards.
use Rattle.answer_types.specs.declared.Refusal.{Refusal}
use Rattle.std.specs.Prelude.{◌≡◌, ℕ, cond, List, length, nat_le, Result, ⊤}
use Rattle.answer_types.specs.Verdict.{Verdict, none, done, refused}
use Rattle.answer_types.specs.Meaning.{said}
use Rattle.byte_strings.specs.Lists.{put}

-- "numbers 7 and 14 apply": more than 65,536 bytes, then a buffer that is shorter than the result, which is as long as the bytes given
abbrev pub longest : ℕ
longest = 65536

unfoldable pub verdict : ℕ → ℕ → Verdict
verdict long room = cond (nat_le long longest) (cond (nat_le long room) done (refused 14 none)) (refused 7 none)

-- the result stands at the front of the buffer, the rest as it was; after a refusal the buffer is as it was
abbrev pub front_unless : Verdict → List ℕ → List ℕ → List ℕ
front_unless done result out = put out 0 result
front_unless (refused m at) result out = out

unfoldable pub after : (List ℕ → List ℕ) → List ℕ → List ℕ → List ℕ
after f d out = front_unless (verdict (length d) (length out)) (f d) out

-- what a call that is to give `f d` answers, and the buffer that it leaves, which was `out` before
pub record Written (f : List ℕ → List ℕ) (d out : List ℕ) (answer : Result ⊤ Refusal) (left : List ℕ) : Type 0 where
  pub answers : said answer ≡ verdict (length d) (length out)
  pub buffer : left ≡ after f d out
