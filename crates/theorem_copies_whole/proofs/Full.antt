-- A register of a whole chunk sequence. Assumes nothing.
use Prim.Native.Nat.{ℕ, ◌<◌}
use mathlib.Core.Path.{◌≡◌, ap, ◌∙◌}
use mathlib.Core.List.{List}
use lib.ListN.{length}
use Rattle.file_format.specs.Messages.{HashFunction}
use Rattle.file_format.specs.Slots.{all_held, Within}
use Rattle.file_format.specs.Belongs.{Register, Belongs}
use Rattle.file_format.proofs.Spans.{span}
use Rattle.file_format.proofs.Slots.{all_length, all_contents}
use Rattle.audit.proofs.Audited.{accepted_audited}
use Rattle.audit.proofs.Accepts.{has_register}
use Rattle.lookup.specs.Descent.{reached, chunk_within, descent, always}
use Rattle.lookup.specs.Lookup.{to_chunk}
use Rattle.lookup.proofs.Answers.{to_chunk_lem}

module _ (F : List ℕ → List ℕ) (hf : HashFunction F) (cs : List (List ℕ)) (w : Within (all_held cs)) where
  abbrev pub full : Register
  full = (has_register F (all_held cs) hf w).0

  pub full_belongs : Belongs F full (all_held cs)
  full_belongs = (has_register F (all_held cs) hf w).3

  pub full_count : full.n ≡ length cs
  full_count = full_belongs.count ∙ all_length cs

  -- a descent in it comes to each chunk where the chunks before it end
  pub full_descent : (i : ℕ) → i < full.n → descent always (chunk_within i) full.tree full.n ≡ reached i (span cs 0 i)
  unfolding to_chunk
  full_descent i h =
      to_chunk_lem F hf (all_held cs) w full full_belongs (accepted_audited F full (has_register F (all_held cs) hf w).2).checked i h
      ∙ ap (λ (l : List (List ℕ)). reached i (span l 0 i)) (all_contents cs)
