-- A stored signature stands behind those that are there, and everything else stays.
-- Assumes nothing.
use Prim.Native.Nat.{ℕ, ◌+◌, ◌≤◌}
use mathlib.Core.Path.{◌≡◌, sym, ap, ◌∙◌}
use mathlib.Core.List.{List, [], ◌∷◌, ◌++◌, append_assoc}
use native.Mathlib.Omega.{arith}
use lib.ListN.{length, take, drop}
use Rattle.byte_strings.specs.Lists.{put, joined}
use Rattle.byte_strings.proofs.Lists.{drop_put, take_put_end}
use Rattle.file_format.specs.Headers.{signatures_header}
use Rattle.file_format.specs.Sizes.{used_signatures}
use Rattle.file_format.specs.Images.{signatures_image}
use Rattle.file_format.specs.Slots.{Slot}
use Rattle.file_format.specs.Belongs.{Register, Belongs}
use Rattle.writing.specs.Sign.{signed_register}
use Rattle.writing.proofs.Written.{joined_snoc}

module _ (r : Register) (signature : List ℕ) (long : length signature ≡ 64) (room : used_signatures (r.s + 1) ≤ length r.signatures) where
  next : used_signatures (r.s + 1) ≡ used_signatures r.s + 64
  unfolding used_signatures
  next = omega arith

  pub sign_image : (sigs : List (List ℕ)) → take (used_signatures r.s) r.signatures ≡ signatures_image sigs
      → take (used_signatures (r.s + 1)) (signed_register r signature).signatures ≡ signatures_image (sigs ++ (signature ∷ []))
  unfolding signatures_image signed_register
  sign_image sigs e =
      ap (λ (m : ℕ). take m (put r.signatures (used_signatures r.s) signature)) next
      ∙ take_put_end r.signatures (used_signatures r.s) 64 signature long (omega (arith, next))
      ∙ ap (λ (h : List ℕ). h ++ signature) e ∙ append_assoc signatures_header (joined sigs) signature
      ∙ ap (λ (t : List ℕ). signatures_header ++ t) (sym (joined_snoc sigs signature))

  pub sign_rest : drop (used_signatures (r.s + 1)) (signed_register r signature).signatures ≡ drop (used_signatures (r.s + 1)) r.signatures
  unfolding signed_register
  sign_rest = drop_put (used_signatures (r.s + 1)) r.signatures (used_signatures r.s) signature (omega (arith, next)) (omega (arith, next))

pub sign_belongs : (F : List ℕ → List ℕ) (r : Register) (signature : List ℕ) (ss : List Slot) → Belongs F r ss → Belongs F (signed_register r signature) ss
unfolding signed_register
sign_belongs F r signature ss b =
    record { count = b.count; total = b.total; tree = b.tree; bitfield = b.bitfield; content = b.content }
