-- What the calls ensure, on every input, and what their inner part requires.
use Rattle.std.specs.Prelude.{ℕ, ◌≡◌, List, Result, Ok, Err}
use Rattle.answer_types.specs.Verdict.{Verdict, done}
use Rattle.answer_types.specs.Meaning.{refusal_of}
use Rattle.stored_leaf.specs.StoredLeaf.{leaf_hash, leaf_length}
use Rattle.answer_types.specs.declared.Refusal.{Refusal}

-- the verdict and the length that each case of the answer stands for
abbrev pub stored_verdict : Result ℕ Refusal → Verdict
stored_verdict (Err r) = refusal_of r
stored_verdict (Ok z) = done

abbrev pub stored_length : Result ℕ Refusal → ℕ
stored_length (Err r) = 0
stored_length (Ok z) = z

-- a call for the leaf of chunk k whose verdict is v: its answer, and the 32 bytes lent to it before and after
pub record LeafPost (v : Verdict) (t : List ℕ) (k : ℕ) (out : List ℕ) (answer : Result ℕ Refusal) (after : List ℕ) : Type 0 where
  pub verdict : stored_verdict answer ≡ v
  pub long : stored_length answer ≡ leaf_length v t k
  pub hash : after ≡ leaf_hash v t k out
