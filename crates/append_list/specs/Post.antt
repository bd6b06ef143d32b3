-- What the append of a list ensures: its answer and the later content of every lent buffer, on every input.
use Rattle.std.specs.Prelude.{ℕ, ◌≡◌, List}
use Rattle.answer_types.specs.Verdict.{Verdict}
use Rattle.blake2b.specs.Hash.{node_hash}
use Rattle.file_format.specs.Belongs.{Buffers, Register}
use Rattle.append_list.specs.Append.{list_verdict, list_root, after_list}

pub record ListPost (r : Register) (lengths bytes : List ℕ) (v : Verdict) (h : List ℕ) (left : Buffers) : Type 0 where
  pub answer : v ≡ list_verdict r lengths bytes
  pub root : h ≡ list_root node_hash r lengths bytes
  pub buffers : left ≡ after_list node_hash r lengths bytes
