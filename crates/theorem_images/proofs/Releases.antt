-- Demand 2, of a release. Assumes nothing.
use Prim.Native.Nat.{ℕ}
use mathlib.Core.Path.{◌≡◌, refl, sym, ◌∙◌}
use mathlib.Core.Bool.{Bool, true, false}
use mathlib.Core.List.{List}
use native.Mathlib.Decide.{dec_lt}
use native.Mathlib.Omega.{arith}
use lib.ListN.{length}
use Rattle.answer_types.specs.Verdict.{Spot, done, refused}
use Rattle.file_format.specs.Messages.{HashFunction}
use Rattle.file_format.specs.Images.{root_hash_for}
use Rattle.file_format.specs.Slots.{Slot, held_in, Within}
use Rattle.file_format.specs.Belongs.{Register, buffers_of, Lent, Belongs}
use Rattle.checks.specs.Checks.{judged, register_checks}
use Rattle.checks.proofs.Passed.{passes}
use Rattle.checks.proofs.Judged.{not_both_verdicts}
use Rattle.audit.specs.Audit.{Accepted}
use Rattle.audit.specs.Theorems.{Imaged}
use Rattle.audit.proofs.Audited.{accepted_audited}
use Rattle.audit.proofs.Exact.{imaged_accepted, audit_exact}
use Rattle.writing.proofs.Orders.{left_done, left_refused}
use Rattle.release.specs.Release.{release_verdict, released_register, after_release}
use Rattle.release.specs.Theorems.{released_in, ReleaseAnswers}
use Rattle.release.proofs.Calls.{held_passed}
use Rattle.release.proofs.Answers.{release_stays, release_answers}
use Rattle.theorem_images.specs.Demand2.{Beyond, ReleaseWrites}
use Rattle.theorem_images.proofs.Singles.{root_hash_lem}

pub checks_passed : (F : List ℕ → List ℕ) (r : Register) → Accepted F r → judged (register_checks r) done ≡ done
checks_passed F r a = passes r done (accepted_audited F r a).checked

release_buffers : (r : Register) (c : ℕ) → release_verdict r c ≡ done → after_release r c ≡ buffers_of (released_register r c)
unfolding after_release
release_buffers r c e = left_done (release_verdict r c) (buffers_of (released_register r c)) (buffers_of r) e

release_unchanged : (r : Register) (c m : ℕ) (at : Spot) → release_verdict r c ≡ refused m at → after_release r c ≡ buffers_of r
unfolding after_release
release_unchanged r c m at e = left_refused (release_verdict r c) (buffers_of (released_register r c)) (buffers_of r) m at e

release_beyond : (r : Register) (c : ℕ) → release_verdict r c ≡ done → Beyond (buffers_of r) (released_register r c)
unfolding released_register
release_beyond r c e = let s = release_stays r c e in record { tree = refl; signatures = refl; bitfield = s.bitfield; content = s.content }

-- a release that is done passed the checks 2 to 6
done_passed : (r : Register) (c : ℕ) → release_verdict r c ≡ done → judged (register_checks r) done ≡ done
unfolding release_verdict
done_passed r c e = passes r done (held_passed r c e).0

module _ (F : List ℕ → List ℕ) (hf : HashFunction F) where
  module _ (r : Register) (ss : List Slot) (w : Within ss) (b : Belongs F r ss) (p : judged (register_checks r) done ≡ done) where
    says : ReleaseAnswers F r ss
    says = release_answers F hf ss w r b p

    held_done : (c : ℕ) → release_verdict r c ≡ done → held_in ss c ≡ true
    held_done c e = go (held_in ss c) refl
      where
        go : (h : Bool) → held_in ss c ≡ h → held_in ss c ≡ true
        go true h = h
        go false h = elim (dec_lt c (length ss)) [
          | yes l ↦ absurd (not_both_verdicts (release_verdict r c) _ _ e (says.not_held c l h))
          | no l ↦ absurd (not_both_verdicts (release_verdict r c) _ _ e (says.no_chunk c (omega arith)))
        ]

  release_belongs : (r : Register) (ss : List Slot) (c : ℕ) → Within ss → Belongs F r ss → release_verdict r c ≡ done
      → Within (released_in r ss c) × Belongs F (released_register r c) (released_in r ss c)
  release_belongs r ss c w b e =
      let p = done_passed r c e in
      let h = (says r ss w b p).held c (held_done r ss w b p c e) in
      (h.within, h.belongs)

  -- the tree is the same, so the stored root message is
  release_root : (r : Register) (ss : List Slot) (c : ℕ) → Within ss → Belongs F r ss → release_verdict r c ≡ done → root_hash_for F (released_in r ss c) ≡ root_hash_for F ss
  unfolding released_register
  release_root r ss c w b e =
      let q = release_belongs r ss c w b e in
      sym (root_hash_lem F hf (released_register r c) (released_in r ss c) q.0 q.1) ∙ root_hash_lem F hf r ss w b

  pub release_imaged : (r : Register) (ss : List Slot) (sigs : List (List ℕ)) (c : ℕ) → Imaged F r ss sigs → release_verdict r c ≡ done
      → Imaged F (released_register r c) (released_in r ss c) sigs
  unfolding released_register
  release_imaged r ss sigs c m e =
      let q = release_belongs r ss c m.within m.belongs e in
      record { within = q.0; belongs = q.1; signed = m.signed; count = m.count; each = m.each; signatures = m.signatures }

  release_accepted : (r : Register) (c : ℕ) → Lent r → Accepted F r → release_verdict r c ≡ done → Accepted F (released_register r c) × Lent (released_register r c)
  release_accepted r c l a e =
      let m = ((audit_exact F hf).exactly r l).0 a in
      (imaged_accepted F hf (released_register r c) (released_in r m.0 c) m.1 (release_imaged r m.0 m.1 c m.2 e), (release_stays r c e).lent l)

  pub release_writes : ReleaseWrites F
  release_writes =
      record {
        says = λ r ss w b a c.
            let p = checks_passed F r a in
            record {
              takes = (held_done r ss w b p c, λ h. ((says r ss w b p).held c h).says);
              not_held = (says r ss w b p).not_held c;
              no_chunk = (says r ss w b p).no_chunk c;
            };
        buffers = release_buffers;
        belongs = release_belongs;
        root = release_root;
        images = release_imaged;
        accepted = release_accepted;
        beyond = release_beyond;
        unchanged = release_unchanged;
      }
