-- What the calls on a partial copy answer to C.
use Rattle.std.specs.Prelude.{Result}
use Prim.Native.Nat.{ℕ}
use mathlib.Core.Path.{◌≡◌, ap, ap₂, ◌∙◌}
use mathlib.Core.List.{List}
use Rattle.answer_types.specs.Verdict.{Verdict, unless_refused}
use Rattle.blake2b.specs.Hash.{node_hash}
use Rattle.packet.specs.Post.{made_verdict, made_bytes}
use Rattle.answer_types.specs.declared.Refusal.{Refusal}
use Rattle.copy_checks.specs.Copy.{Copy}
use Rattle.copy_packet.specs.Making.{copy_after_make, copy_made_length, CopyMadeAs}
use Rattle.c_encoding.specs.Encoding.{encoded}
use Rattle.c_api.specs.Partial.{CopyMakes}

-- a packet made of a copy's chunk, from what its maker answers
pub copy_makes : (c : Copy) (i : ℕ) (out : List ℕ) (long : ℕ) (answer : List ℕ) (m : Result ℕ Refusal) (after : List ℕ) (long_after : ℕ)
    → CopyMadeAs node_hash c i out m after → answer ≡ encoded (made_verdict m) → long_after ≡ unless_refused (made_verdict m) (made_bytes m) long
    → CopyMakes c i out long answer after long_after
unfolding copy_made_length copy_after_make
copy_makes c i out long answer m after long_after h a l =
    record {
      answers = a ∙ ap encoded h.verdict;
      packet = h.written;
      length = l ∙ ap₂ (λ (v : Verdict) (k : ℕ). unless_refused v k long) h.verdict h.long;
    }
