-- What the listing in a lent buffer ensures.
use Rattle.std.specs.Prelude.{ℕ, ◌≤◌, ◌≡◌, List, [], ◌∷◌, length, Result, Ok, Err}
use Rattle.answer_types.specs.Verdict.{Verdict, done, unless_refused}
use Rattle.answer_types.specs.Meaning.{refusal_of}
use Rattle.answer_types.specs.declared.Refusal.{Refusal}
use Rattle.byte_strings.specs.Lists.{put}
use Rattle.checks.specs.Checks.{judged, holds}
use Rattle.listing_lines.specs.Lines.{listing}
use Rattle.listing_lines.specs.Limits.{most_listed}

-- "14. A buffer to be written is shorter than the result needs.": the one refusal of a listing
unfoldable pub list_verdict : List ℕ → List ℕ → Verdict
list_verdict input out = judged (record { number = 14; right = holds out (length (listing input)) } ∷ []) done

-- the verdict and the length that each case of the answer stands for
abbrev pub listing_verdict : Result ℕ Refusal → Verdict
listing_verdict (Err r) = refusal_of r
listing_verdict (Ok k) = done

abbrev pub listing_bytes : Result ℕ Refusal → ℕ
listing_bytes (Err r) = 0
listing_bytes (Ok k) = k

-- the lines stand at the front of the buffer, with other bytes as they were, and their length is the answer; after a refusal no byte
-- changed. A buffer of so many bytes has room for every listing.
pub record Listed (input out : List ℕ) (answer : Result ℕ Refusal) (after : List ℕ) : Type 0 where
  pub verdict : listing_verdict answer ≡ list_verdict input out
  pub long : listing_bytes answer ≡ unless_refused (list_verdict input out) (length (listing input)) 0
  pub buffer : after ≡ unless_refused (list_verdict input out) (put out 0 (listing input)) out
  pub most : length (listing input) ≤ most_listed
