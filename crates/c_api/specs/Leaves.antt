-- The numbers that stand for what the calls for a stored leaf entry say.
use Rattle.std.specs.Prelude.{ℕ, ◌≡◌, List, Result}
use Rattle.answer_types.specs.Verdict.{Verdict, unless_refused}
use Rattle.stored_leaf.specs.StoredLeaf.{leaf_hash, leaf_length}
use Rattle.stored_leaf.specs.Post.{stored_verdict, stored_length}
use Rattle.answer_types.specs.declared.Refusal.{Refusal}
use Rattle.c_encoding.specs.Encoding.{encoded}

-- what was found, and the number lent for the length before and after
pub record TellsLength (x : Result ℕ Refusal) (long : ℕ) (answer : List ℕ) (long_after : ℕ) : Type 0 where
  pub answers : answer ≡ encoded (stored_verdict x)
  pub length : long_after ≡ unless_refused (stored_verdict x) (stored_length x) long

-- the leaf of chunk k in the tree file t, where the call's verdict is v: the answer, the 32 bytes lent for the hash and the number lent for the length
pub record GivesLeaf (v : Verdict) (t : List ℕ) (k : ℕ) (out : List ℕ) (long : ℕ) (answer out_after : List ℕ) (long_after : ℕ) : Type 0 where
  pub answers : answer ≡ encoded v
  pub hash : out_after ≡ leaf_hash v t k out
  pub length : long_after ≡ unless_refused v (leaf_length v t k) long
