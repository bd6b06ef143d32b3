-- What making a packet answers and writes.
use Rattle.std.specs.Prelude.{ℕ, ◌≡◌, List, length, Result, Ok, Err}
use Rattle.answer_types.specs.Verdict.{Verdict, done, unless_refused}
use Rattle.answer_types.specs.Meaning.{refusal_of}
use Rattle.file_format.specs.Belongs.{Register}
use Rattle.byte_strings.specs.Lists.{put}
use Rattle.packet.specs.Packet.{packet_of, make_behind, make_verdict}
use Rattle.answer_types.specs.declared.Refusal.{Refusal}

-- the verdict and the length that each case of the answer stands for
abbrev pub made_verdict : Result ℕ Refusal → Verdict
made_verdict (Err r) = refusal_of r
made_verdict (Ok k) = done

abbrev pub made_bytes : Result ℕ Refusal → ℕ
made_bytes (Err r) = 0
made_bytes (Ok k) = k

-- the answer to a making whose verdict is v and whose packet is p, and the buffer after it, which was `out` before
pub record MadeFor (v : Verdict) (p out : List ℕ) (answer : Result ℕ Refusal) (after : List ℕ) : Type 0 where
  pub verdict : made_verdict answer ≡ v
  pub long : made_bytes answer ≡ unless_refused v (length p) 0
  pub written : after ≡ unless_refused v (put out 0 p) out

-- of a register's chunk, and behind a read that is made already
abbrev pub MadeAs : (List ℕ → List ℕ) → Register → ℕ → List ℕ → Result ℕ Refusal → List ℕ → Type 0
MadeAs F r c out = MadeFor (make_verdict F r c out) (packet_of r c) out

abbrev pub MadeBehind : Verdict → List ℕ → List ℕ → Result ℕ Refusal → List ℕ → Type 0
MadeBehind read p out = MadeFor (make_behind read p out) p out
