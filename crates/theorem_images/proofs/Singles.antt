-- Demand 2, of one append and of one stored signature. Assumes nothing.
use Prim.Native.Nat.{ℕ, ◌+◌}
use mathlib.Core.Path.{◌≡◌, refl, ap, ◌∙◌}
use mathlib.Core.Logic.{inl, inr}
use mathlib.Core.List.{List, [], ◌∷◌, ◌++◌}
use lib.ListN.{length}
use Rattle.answer_types.specs.Verdict.{Spot, Verdict, done, refused}
use Rattle.byte_strings.specs.Lists.{Bytes, zeros}
use Rattle.file_format.specs.Messages.{HashFunction}
use Rattle.file_format.specs.Stored.{stored_root_message}
use Rattle.file_format.specs.Images.{root_hash_for}
use Rattle.file_format.specs.Slots.{Slot, held, Within}
use Rattle.file_format.specs.Belongs.{Register, buffers_of, Lent, Belongs}
use Rattle.file_format.proofs.OfImage.{stored_root_message_lem}
use Rattle.audit.specs.Audit.{Accepted}
use Rattle.audit.specs.Theorems.{Imaged}
use Rattle.audit.proofs.Audited.{accepted_audited}
use Rattle.audit.proofs.Exact.{imaged_accepted, audit_exact}
use Rattle.writing.specs.Append.{append_verdict, appended_register, root_unless_refused, append_root, after_append}
use Rattle.writing.specs.Sign.{sign_verdict, signed_register, after_sign}
use Rattle.writing.specs.Conditions.{AppendFits, SignFits}
use Rattle.writing.proofs.Written.{length_snoc, each_below_snoc}
use Rattle.writing.proofs.Orders.{left_done, left_refused}
use Rattle.writing.proofs.Verdicts.{append_passed, passed_append, sign_passed, passed_sign}
use Rattle.writing.proofs.AfterAppend.{longer_within, append_belongs, append_root_lem, append_tree_rest, append_bitfield_rest, append_content_rest}
use Rattle.writing.proofs.Signed.{sign_image, sign_rest, sign_belongs}
use Rattle.writing.proofs.Lent.{append_lent, sign_lent}
use Rattle.theorem_images.specs.Demand2.{Beyond, AppendWrites, SignWrites}

-- ---- the root hash of a register that belongs to a chunk sequence

pub root_hash_lem : (F : List ℕ → List ℕ) → HashFunction F → (r : Register) (ss : List Slot) → Within ss → Belongs F r ss
    → F (stored_root_message r.tree r.n) ≡ root_hash_for F ss
unfolding root_hash_for
root_hash_lem F hf r ss w b = ap F (stored_root_message_lem F hf ss w r b)

-- ---- an append

module _ (F : List ℕ → List ℕ) (r : Register) (chunk : List ℕ) where
  append_buffers : append_verdict r chunk ≡ done → after_append F r chunk ≡ buffers_of (appended_register F r chunk)
  unfolding after_append
  append_buffers e = left_done (append_verdict r chunk) (buffers_of (appended_register F r chunk)) (buffers_of r) e

  append_unchanged : (m : ℕ) (at : Spot) → append_verdict r chunk ≡ refused m at → (after_append F r chunk ≡ buffers_of r) × (append_root F r chunk ≡ zeros 32)
  unfolding after_append append_root
  append_unchanged m at e = (
    left_refused (append_verdict r chunk) (buffers_of (appended_register F r chunk)) (buffers_of r) m at e,
    ap (λ (v : Verdict). root_unless_refused F v (appended_register F r chunk)) e,
  )

  answered : append_verdict r chunk ≡ done → append_root F r chunk ≡ F (stored_root_message (appended_register F r chunk).tree (appended_register F r chunk).n)
  unfolding append_root
  answered e = ap (λ (v : Verdict). root_unless_refused F v (appended_register F r chunk)) e

  -- what is left beyond the new used sizes
  pub append_beyond : HashFunction F → Bytes chunk → Bytes r.tree → AppendFits r chunk → Beyond (buffers_of r) (appended_register F r chunk)
  unfolding appended_register
  append_beyond hf p t f =
      record {
        tree = append_tree_rest F hf r t chunk p f;
        signatures = refl;
        bitfield = append_bitfield_rest F hf r t chunk p f;
        content = append_content_rest F hf r t chunk p f;
      }

  module _ (hf : HashFunction F) (p : Bytes chunk) (e : append_verdict r chunk ≡ done) where
    fits : AppendFits r chunk
    fits = (append_passed r chunk e).1

    pub append_imaged : (ss : List Slot) (sigs : List (List ℕ)) → Imaged F r ss sigs → Imaged F (appended_register F r chunk) (ss ++ (held chunk ∷ [])) sigs
    unfolding appended_register
    append_imaged ss sigs m =
        record {
          within = longer_within F hf ss m.within r m.belongs chunk p fits;
          belongs = append_belongs F hf ss m.within r m.belongs chunk p fits;
          signed = inr (ap (λ (k : ℕ). k + 1) fits.paid);
          count = m.count;
          each = m.each;
          signatures = m.signatures;
        }

    pub append_accepted : Lent r → Accepted F r → Accepted F (appended_register F r chunk) × Lent (appended_register F r chunk)
    append_accepted l a =
        let m = ((audit_exact F hf).exactly r l).0 a in (
          imaged_accepted F hf (appended_register F r chunk) (m.0 ++ (held chunk ∷ [])) m.1 (append_imaged m.0 m.1 m.2),
          append_lent F hf m.0 m.2.within r m.2.belongs chunk p fits l,
        )

pub append_writes : (F : List ℕ → List ℕ) → HashFunction F → AppendWrites F
append_writes F hf =
    record {
      takes = λ r chunk a. (λ e. (append_passed r chunk e).1, λ f. passed_append r chunk (accepted_audited F r a).checked f);
      buffers = append_buffers F;
      belongs = λ r ss chunk w b p e.
          (longer_within F hf ss w r b chunk p (append_passed r chunk e).1, append_belongs F hf ss w r b chunk p (append_passed r chunk e).1);
      answers = λ r ss chunk w b p e. answered F r chunk e ∙ append_root_lem F hf ss w r b chunk p (append_passed r chunk e).1;
      images = λ r ss sigs chunk m p e. append_imaged F r chunk hf p e ss sigs m;
      accepted = λ r chunk l a p e. append_accepted F r chunk hf p e l a;
      beyond = λ r chunk l p e. append_beyond F r chunk hf p l.tree (append_passed r chunk e).1;
      unchanged = append_unchanged F;
    }

-- ---- a stored signature

module _ (F : List ℕ → List ℕ) (r : Register) (signature : List ℕ) where
  sign_buffers : sign_verdict r ≡ done → after_sign r signature ≡ buffers_of (signed_register r signature)
  unfolding after_sign
  sign_buffers e = left_done (sign_verdict r) (buffers_of (signed_register r signature)) (buffers_of r) e

  sign_unchanged : (m : ℕ) (at : Spot) → sign_verdict r ≡ refused m at → after_sign r signature ≡ buffers_of r
  unfolding after_sign
  sign_unchanged m at e = left_refused (sign_verdict r) (buffers_of (signed_register r signature)) (buffers_of r) m at e

  pub sign_beyond : length signature ≡ 64 → SignFits r → Beyond (buffers_of r) (signed_register r signature)
  unfolding signed_register
  sign_beyond long f = record { tree = refl; signatures = sign_rest r signature long f.room; bitfield = refl; content = refl }

  module _ (long : length signature ≡ 64) (e : sign_verdict r ≡ done) where
    owes : SignFits r
    owes = (sign_passed r e).1

    pub sign_imaged : (ss : List Slot) (sigs : List (List ℕ)) → Imaged F r ss sigs → Imaged F (signed_register r signature) ss (sigs ++ (signature ∷ []))
    unfolding signed_register
    sign_imaged ss sigs m =
        record {
          within = m.within;
          belongs = sign_belongs F r signature ss m.belongs;
          signed = inl owes.owed;
          count = length_snoc sigs signature ∙ ap (λ (k : ℕ). k + 1) m.count;
          each = each_below_snoc (λ (x : List ℕ). length x ≡ 64) sigs signature m.each long;
          signatures = sign_image r signature long owes.room sigs m.signatures;
        }

    pub sign_accepted : HashFunction F → Lent r → Accepted F r → Bytes signature → Accepted F (signed_register r signature) × Lent (signed_register r signature)
    sign_accepted hf l a p =
        let m = ((audit_exact F hf).exactly r l).0 a in
        (imaged_accepted F hf (signed_register r signature) m.0 (m.1 ++ (signature ∷ [])) (sign_imaged m.0 m.1 m.2), sign_lent r signature l p)

pub sign_writes : (F : List ℕ → List ℕ) → HashFunction F → SignWrites F
sign_writes F hf =
    record {
      takes = λ r a. (λ e. (sign_passed r e).1, λ f. passed_sign r (accepted_audited F r a).checked f);
      buffers = sign_buffers F;
      belongs = λ r ss signature b. sign_belongs F r signature ss b;
      images = λ r ss sigs signature m l e. sign_imaged F r signature l e ss sigs m;
      accepted = λ r signature l a p g e. sign_accepted F r signature g e hf l a p;
      beyond = λ r signature g e. sign_beyond F r signature g (sign_passed r e).1;
      unchanged = sign_unchanged F;
    }
