-- The making of a packet from a copy.
use Rattle.std.specs.Prelude.{ℕ, List, length, Result}
use Rattle.answer_types.specs.Verdict.{Verdict, unless_refused}
use Rattle.byte_strings.specs.Lists.{put}
use Rattle.packet.specs.Packet.{packet_of, make_behind}
use Rattle.packet.specs.Post.{MadeFor}
use Rattle.answer_types.specs.declared.Refusal.{Refusal}
use Rattle.copy_checks.specs.Copy.{Copy, unsigned}
use Rattle.copy_lookup.specs.Reading.{copy_read_verdict}

module _ (F : List ℕ → List ℕ) where
  -- "Making one does the read of chunk i first, with its refusals", and then 14. By then every root is known, and so are both children of each parent on
  -- the way, so that nothing which the packet has is unknown
  unfoldable pub copy_make_verdict : Copy → ℕ → List ℕ → Verdict
  copy_make_verdict c i out = make_behind (copy_read_verdict F c i) (packet_of (unsigned c) i) out

  unfoldable pub copy_after_make : Copy → ℕ → List ℕ → List ℕ
  copy_after_make c i out = unless_refused (copy_make_verdict c i out) (put out 0 (packet_of (unsigned c) i)) out

  unfoldable pub copy_made_length : Copy → ℕ → List ℕ → ℕ
  copy_made_length c i out = unless_refused (copy_make_verdict c i out) (length (packet_of (unsigned c) i)) 0

  -- what it ensures, on every input
  abbrev pub CopyMadeAs : Copy → ℕ → List ℕ → Result ℕ Refusal → List ℕ → Type 0
  CopyMadeAs c i out = MadeFor (copy_make_verdict c i out) (packet_of (unsigned c) i) out
