-- A copy that is accepted and knows every entry but the holes, as a register with signatures of which nothing else is asked. Assumes nothing.
use Prim.Native.Nat.{ℕ, ◌+◌, ◌*◌}
use mathlib.Core.Path.{refl, ap, ap₂, ◌∙◌}
use mathlib.Core.Bool.{Bool, ◌||◌}
use mathlib.Core.List.{List, ◌++◌}
use native.Mathlib.Omega.{arith}
use borrow.Author.Tests.{leb-true, le-leb, eq-eqb}
use lib.Dec.{eqb}
use lib.ListN.{length, length-append, length-replicate}
use lib.Seq.{take_at}
use Rattle.byte_strings.specs.Lists.{zeros}
use Rattle.byte_strings.proofs.Lists.{bytes_append, bytes_zeros, same_eq, same_of}
use Rattle.file_format.specs.Headers.{signatures_header}
use Rattle.file_format.specs.Sizes.{used_signatures}
use Rattle.file_format.specs.Messages.{HashFunction}
use Rattle.file_format.specs.Slots.{Slot, Within}
use Rattle.file_format.specs.Belongs.{Lent, Belongs}
use Rattle.file_format.proofs.ImageBytes.{signatures_header_bytes}
use Rattle.file_format.proofs.OfImage.{signatures_header_length}
use Rattle.audit.proofs.Accepts.{belongs_accepted}
use Rattle.audit.proofs.Audited.{accepted_audited}
use Rattle.audit.proofs.Only.{cut, accepted_belongs}
use Rattle.copy_checks.specs.Copy.{Copy, unsigned}
use Rattle.copy_checks.proofs.Signed.{signed}
use Rattle.copy_audit.specs.Audit.{AcceptedCopy}
use Rattle.theorem_copies_agree.specs.Theorems.{AllKnown}
use Rattle.theorem_copy_audit.specs.Theorems.{SignaturesPass}
use Rattle.theorem_copy_audit.proofs.Sound.{accepted_sound, sound_accepted}
use Rattle.theorem_copy_audit.proofs.Registers.{all_known, lent_sound, sound_register}

-- signatures of zeros pass
zeros_pass : (c : Copy) → SignaturesPass (signed c)
unfolding used_signatures
zeros_pass c =
    let l = length-append signatures_header (zeros (64 * c.n)) ∙ ap₂ ◌+◌ signatures_header_length (length-replicate {A = ℕ} (64 * c.n) 0) in
    record {
      count = ap (λ (b : Bool). b || eqb (c.n + 1) c.n) (eq-eqb c.n c.n refl);
      long = le-leb (32 + 64 * c.n) (length (signatures_header ++ zeros (64 * c.n))) (omega (arith, l));
      front = same_of _ _ (take_at signatures_header (zeros (64 * c.n)) 32 signatures_header_length);
    }

module _ (F : List ℕ → List ℕ) (hf : HashFunction F) (c : Copy) where
  pub whole_belongs : Lent (unsigned c) → AcceptedCopy F c → AllKnown c → (ss : List Slot) × (Within ss × Belongs F (unsigned c) ss)
  whole_belongs l a all =
      let bytes : Lent (signed c) =
      record {
        tree = l.tree;
        signatures = bytes_append signatures_header (zeros (64 * c.n)) signatures_header_bytes (bytes_zeros (64 * c.n));
        bitfield = l.bitfield;
        content = l.content;
      }
      in
      let q = accepted_belongs F hf (signed c) bytes (sound_register F (signed c) (accepted_sound F c a) all (zeros_pass c)) in
      let b = q.1 in
      (cut (signed c), (q.0, record { count = b.count; total = b.total; tree = b.tree; bitfield = b.bitfield; content = b.content }))

  pub belongs_whole : (ss : List Slot) → Within ss → Belongs F (unsigned c) ss → AcceptedCopy F c × AllKnown c
  belongs_whole ss w b =
      let g = zeros_pass c in
      let a = accepted_audited F (signed c)
      (belongs_accepted F hf ss w (signed c) (record { count = b.count; total = b.total; tree = b.tree; bitfield = b.bitfield; content = b.content })
      (record { count = g.count; long = leb-true _ _ g.long; front = same_eq _ _ g.front })) in
      (sound_accepted F c (lent_sound F (signed c) a), all_known F (signed c) a)
