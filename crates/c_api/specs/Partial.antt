-- The numbers that stand for what the calls on a partial copy say.
use Rattle.std.specs.Prelude.{ℕ, ◌≡◌, List}
use Rattle.answer_types.specs.Verdict.{unless_refused}
use Rattle.blake2b.specs.Hash.{node_hash}
use Rattle.copy_checks.specs.Copy.{Copy}
use Rattle.copy_packet.specs.Making.{copy_make_verdict, copy_made_length, copy_after_make}
use Rattle.c_encoding.specs.Encoding.{encoded}

-- making the packet of chunk i of a copy: the answer, the buffer lent for it and the number lent for its length
pub record CopyMakes (c : Copy) (i : ℕ) (out : List ℕ) (long : ℕ) (answer out_after : List ℕ) (long_after : ℕ) : Type 0 where
  pub answers : answer ≡ encoded (copy_make_verdict node_hash c i out)
  pub packet : out_after ≡ copy_after_make node_hash c i out
  pub length : long_after ≡ unless_refused (copy_make_verdict node_hash c i out) (copy_made_length node_hash c i out) long
