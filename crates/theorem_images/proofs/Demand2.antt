-- Demand 2: the proof of `Demand2ForAll`.
-- Assumes nothing.
use Prim.Native.Nat.{ℕ, ◌<◌}
use lib.ListN.{length}
use mathlib.Core.Path.{◌≡◌, refl, sym, ap, ◌∙◌, subst}
use mathlib.Core.Logic.{inl}
use mathlib.Core.List.{List, []}
use native.Mathlib.Omega.{arith}
use Rattle.answer_types.specs.Verdict.{Spot, Verdict, done, refused, and_then}
use Rattle.file_format.specs.Messages.{HashFunction}
use Rattle.file_format.specs.Stored.{stored_root_message}
use Rattle.file_format.specs.Slots.{Slot}
use Rattle.file_format.specs.Belongs.{Buffers, Register, buffers_of}
use Rattle.file_format.proofs.Slots.{contents_length}
use Rattle.checks.specs.Checks.{holds}
use Rattle.checks.proofs.Passed.{Passed, passes}
use Rattle.audit.specs.Theorems.{Imaged}
use Rattle.audit.proofs.Audited.{accepted_audited}
use Rattle.audit.proofs.Exact.{imaged_accepted, audit_exact}
use Rattle.writing.specs.Start.{start_verdict, started, started_register, after_start}
use Rattle.writing.specs.Append.{root_unless_refused}
use Rattle.writing.specs.RootHash.{root_verdict, root_answer}
use Rattle.writing.proofs.Written.{within_nil}
use Rattle.writing.proofs.Started.{fits_start, start_refused, started_belongs, started_signatures, start_tree_rest, start_signatures_rest, start_bitfield_rest}
use Rattle.writing.proofs.Orders.{left_done, left_refused}
use Rattle.writing.proofs.Lent.{start_lent}
use Rattle.lookup.specs.Read.{read_verdict}
use Rattle.lookup.proofs.Answers.{answers}
use Rattle.packet.specs.Packet.{packet_of, room_or14, make_verdict}
use Rattle.packet.proofs.Answers.{packet_answers}
use Rattle.theorem_images.specs.Demand2.{Beyond, StartWrites, RootAnswers, Written, from_start, from_images, and_appended, and_listed, and_released, and_signed, Demand2ForAll}
use Rattle.theorem_images.proofs.Singles.{append_imaged, append_writes, sign_imaged, sign_writes, root_hash_lem}
use Rattle.theorem_images.proofs.Lists.{list_imaged, list_writes}
use Rattle.theorem_images.proofs.Releases.{checks_passed, release_imaged, release_writes}

-- ---- a start

module _ (F : List ℕ → List ℕ) (b : Buffers) where
  start_imaged : Imaged F (started_register b) [] []
  unfolding started_register
  start_imaged =
      record {
        within = within_nil;
        belongs = started_belongs F b;
        signed = inl refl;
        count = refl;
        each = λ k h. absurd (omega arith);
        signatures = started_signatures b;
      }

start_buffers : (b : Buffers) → start_verdict b ≡ done → after_start b ≡ buffers_of (started_register b)
unfolding after_start started_register
start_buffers b e = left_done (start_verdict b) (started b) b e

start_unchanged : (b : Buffers) (m : ℕ) (at : Spot) → start_verdict b ≡ refused m at → after_start b ≡ b
unfolding after_start
start_unchanged b m at e = left_refused (start_verdict b) (started b) b m at e

start_beyond : (b : Buffers) → Beyond b (started_register b)
unfolding started_register started
start_beyond b = record { tree = start_tree_rest b; signatures = start_signatures_rest b; bitfield = start_bitfield_rest b; content = refl }

pub start_writes : (F : List ℕ → List ℕ) → HashFunction F → StartWrites F
start_writes F hf =
    record {
      takes = fits_start;
      refuses = start_refused;
      buffers = start_buffers;
      images = λ b e. start_imaged F b;
      accepted = λ b e. imaged_accepted F hf (started_register b) [] [] (start_imaged F b);
      beyond = λ b e. start_beyond b;
      lent = start_lent;
      unchanged = start_unchanged;
    }

-- ---- the root hash

root_done_lem : (r : Register) → Passed r → root_verdict r ≡ done
unfolding root_verdict
root_done_lem r p = passes r done p

root_answered : (F : List ℕ → List ℕ) (r : Register) → root_verdict r ≡ done → root_answer F r ≡ F (stored_root_message r.tree r.n)
unfolding root_answer
root_answered F r e = ap (λ (v : Verdict). root_unless_refused F v r) e

pub root_answers : (F : List ℕ → List ℕ) → HashFunction F → RootAnswers F
root_answers F hf =
    record {
      takes = λ r a. root_done_lem r (accepted_audited F r a).checked;
      answers = λ r ss w b e. root_answered F r e ∙ root_hash_lem F hf r ss w b;
    }

-- ---- what is read from it

-- a read that is refused makes no packet
no_packet_lem : (F : List ℕ → List ℕ) (r : Register) (i : ℕ) (out : List ℕ) {m : ℕ} {at : Spot} → read_verdict F r i ≡ refused m at → make_verdict F r i out ≡ refused m at
unfolding make_verdict
no_packet_lem F r i out e = ap (λ (v : Verdict). and_then v (room_or14 (holds out (length (packet_of r i))))) e

-- ---- whatever calls wrote it

written_imaged : (F : List ℕ → List ℕ) → HashFunction F → {r : Register} {ss : List Slot} {sigs : List (List ℕ)} → Written F r ss sigs → Imaged F r ss sigs
written_imaged F hf (from_start b e) = start_imaged F b
written_imaged F hf (from_images m) = m
written_imaged F hf (and_appended {r} {ss} {sigs} chunk m p e) = append_imaged F r chunk hf p e ss sigs (written_imaged F hf m)
written_imaged F hf (and_listed {r} {ss} {sigs} lengths bytes m p e) = list_imaged F hf r ss sigs lengths bytes (written_imaged F hf m) p e
written_imaged F hf (and_released {r} {ss} {sigs} c m e) = release_imaged F hf r ss sigs c (written_imaged F hf m) e
written_imaged F hf (and_signed {r} {ss} {sigs} signature m g e) = sign_imaged F r signature g e ss sigs (written_imaged F hf m)

pub demand_2 : Demand2ForAll
demand_2 F hf =
    record {
      start = start_writes F hf;
      append = append_writes F hf;
      list = list_writes F hf;
      sign = sign_writes F hf;
      release = release_writes F hf;
      root = root_answers F hf;
      written = λ r ss sigs m. written_imaged F hf m;
      audit = audit_exact F hf;
      gives = λ r ss w b a.
          let p = checks_passed F r a in
          record {
            reads = answers F hf ss w r b p;
            packets = packet_answers F hf ss w r b p;
            no_packet = λ i l h out. no_packet_lem F r i out ((answers F hf ss w r b p).not_held i (subst (λ (n : ℕ). i < n) (sym (contents_length ss)) l) h);
          };
    }
