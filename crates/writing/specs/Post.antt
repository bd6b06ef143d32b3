-- What each call ensures: its answer and the later content of every lent buffer, on every input.
use Rattle.std.specs.Prelude.{ℕ, ◌≡◌, List}
use Rattle.answer_types.specs.Verdict.{Verdict}
use Rattle.blake2b.specs.Hash.{node_hash}
use Rattle.file_format.specs.Belongs.{Buffers, Register}
use Rattle.writing.specs.Start.{start_verdict, after_start}
use Rattle.writing.specs.Append.{append_verdict, append_root, after_append}
use Rattle.writing.specs.Sign.{sign_verdict, after_sign}
use Rattle.writing.specs.RootHash.{root_verdict, root_answer}

-- four lent buffers
abbrev pub lent : List ℕ → List ℕ → List ℕ → List ℕ → Buffers
lent tree signatures bitfield content = record { tree = tree; signatures = signatures; bitfield = bitfield; content = content }

pub record StartPost (b : Buffers) (v : Verdict) (left : Buffers) : Type 0 where
  pub answer : v ≡ start_verdict b
  pub buffers : left ≡ after_start b

pub record AppendPost (r : Register) (chunk : List ℕ) (v : Verdict) (h : List ℕ) (left : Buffers) : Type 0 where
  pub answer : v ≡ append_verdict r chunk
  pub root : h ≡ append_root node_hash r chunk
  pub buffers : left ≡ after_append node_hash r chunk

pub record SignPost (r : Register) (signature : List ℕ) (v : Verdict) (left : Buffers) : Type 0 where
  pub answer : v ≡ sign_verdict r
  pub buffers : left ≡ after_sign r signature

pub record RootPost (r : Register) (v : Verdict) (h : List ℕ) : Type 0 where
  pub answer : v ≡ root_verdict r
  pub root : h ≡ root_answer node_hash r
