-- What the public call ensures, part by part.
use Rattle.std.specs.Prelude.{◌≡◌, List, ℕ, length, replicate, Result}
use Rattle.answer_types.specs.Verdict.{refused, none}
use Rattle.answer_types.specs.Meaning.{said}
use Rattle.blake2b.specs.Digest.{verdict, digest}
use Rattle.std.specs.Result.{result_unwrap_or}
use Rattle.answer_types.specs.declared.Refusal.{Refusal}

-- the verdict on a hash of the message d under a key with output length nn, and its 64 bytes, for which zeros stand after a refusal
pub record HashedAs (nn : ℕ) (key d : List ℕ) (r : Result (List ℕ) Refusal) : Type 0 where
  pub answers : said r ≡ verdict nn (length key)
  pub hashes : result_unwrap_or r (replicate 64 0) ≡ digest nn key d

-- a refusal without a place, and 64 zeros
pub record Refused (m : ℕ) (r : Result (List ℕ) Refusal) : Type 0 where
  pub answers : said r ≡ refused m none
  pub zeros : result_unwrap_or r (replicate 64 0) ≡ replicate 64 0
