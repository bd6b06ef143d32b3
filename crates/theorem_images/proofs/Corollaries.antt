-- What follows from demand 2 of a chunk sequence, all of it held, as the demand is stated, with no look at its proof.
-- Assumes nothing: each corollary takes the demand.
use mathlib.Core.Path.{◌≡◌, ap, ◌∙◌, subst}
use mathlib.Core.Bool.{true}
use mathlib.Core.List.{List, [], ◌++◌}
use Prim.Native.Nat.{ℕ, ◌<◌}
use borrow.Author.Tests.{lt-ltb}
use lib.ListN.{length, get_or}
use Rattle.answer_types.specs.Verdict.{done}
use Rattle.bitfield.specs.Image.{held_below}
use Rattle.bitfield.proofs.Append.{entries_ext}
use Rattle.file_format.specs.Headers.{bitfield_header}
use Rattle.file_format.specs.Images.{bitfield_image, bitfield_of}
use Rattle.file_format.specs.Slots.{all_held, held_in, Within}
use Rattle.file_format.specs.Belongs.{Register, Belongs}
use Rattle.file_format.proofs.Slots.{all_contents, all_held_lem}
use Rattle.audit.specs.Audit.{Accepted}
use Rattle.lookup.specs.Read.{read_verdict, read_part}
use Rattle.lookup.specs.Theorems.{Answers}
use Rattle.packet.specs.Theorems.{PacketAnswers}
use Rattle.theorem_images.specs.Demand2.{Demand2}

-- "A data bit is 1 for each chunk below n"
pub sequence_bits : (cs : List (List ℕ)) (n : ℕ) → bitfield_image (held_in (all_held cs)) n ≡ bitfield_image (held_below (length cs)) n
unfolding bitfield_of
sequence_bits cs n = ap (λ (l : List ℕ). bitfield_header ++ l) (entries_ext (held_in (all_held cs)) (held_below (length cs)) n (all_held_lem cs))

module _ (F : List ℕ → List ℕ) (demand : Demand2 F) (r : Register) (cs : List (List ℕ)) (w : Within (all_held cs)) (b : Belongs F r (all_held cs)) (a : Accepted F r) where
  -- places and bytes
  pub sequence_answers : Answers F r (all_held cs) cs
  sequence_answers = subst (Answers F r (all_held cs)) (all_contents cs) (demand.gives r (all_held cs) w b a).reads

  module _ (i : ℕ) (h : i < length cs) where
    here : held_in (all_held cs) i ≡ true
    here = all_held_lem cs i ∙ lt-ltb i (length cs) h

    -- every chunk is read back
    pub sequence_reads : (read_verdict F r i ≡ done) × (read_part F r i ≡ get_or cs i [])
    sequence_reads = (sequence_answers.read_done i here, sequence_answers.read i here)

    -- and has its packet
    pub sequence_packets : PacketAnswers F r (all_held cs) i
    sequence_packets = (demand.gives r (all_held cs) w b a).packets i here
