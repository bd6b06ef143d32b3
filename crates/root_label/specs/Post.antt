-- What the call ensures: its verdict, and the label, for which zeros stand after a refusal.
use Rattle.std.specs.Prelude.{◌≡◌, List, ℕ, Result, replicate}
use Rattle.answer_types.specs.Meaning.{said}
use Rattle.root_label.specs.Label.{label_verdict, label_bytes}
use Rattle.std.specs.Result.{result_unwrap_or}
use Rattle.answer_types.specs.declared.Refusal.{Refusal}

pub record LabelledAs (root key : List ℕ) (r : Result (List ℕ) Refusal) : Type 0 where
  pub answers : said r ≡ label_verdict key
  pub bytes : result_unwrap_or r (replicate 32 0) ≡ label_bytes key root
