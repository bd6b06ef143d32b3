-- Demand 2, of a list: what one append and one stored signature keep, all of them keep. Assumes nothing.
use Prim.Native.Nat.{ℕ, ◌+◌, ◌-◌, ◌*◌, ◌≤◌}
use mathlib.Core.Path.{◌≡◌, refl, sym, ap, ◌∙◌}
use mathlib.Core.List.{List, [], ◌∷◌, ◌++◌}
use native.Mathlib.Omega.{arith}
use lib.ListN.{length, drop, length-replicate}
use lib.Seq.{drop-drop}
use Rattle.answer_types.specs.Verdict.{Spot, Verdict, done, refused}
use Rattle.byte_strings.specs.Lists.{Bytes, zeros}
use Rattle.byte_strings.proofs.Lists.{bytes_zeros}
use Rattle.tree_index.specs.Tree.{entries}
use Rattle.bitfield.specs.Image.{entry_count}
use Rattle.file_format.specs.Sizes.{used_tree, used_signatures, used_bitfield}
use Rattle.file_format.specs.Messages.{HashFunction}
use Rattle.file_format.specs.Stored.{stored_root_message}
use Rattle.file_format.specs.Slots.{Slot, held, all_held, Within}
use Rattle.file_format.specs.Belongs.{Buffers, Register, buffers_of, Lent, Belongs}
use Rattle.checks.proofs.Passed.{Passed}
use Rattle.audit.specs.Audit.{Accepted}
use Rattle.audit.specs.Theorems.{Imaged}
use Rattle.audit.proofs.Audited.{accepted_audited}
use Rattle.audit.proofs.Exact.{imaged_accepted, audit_exact}
use Rattle.writing.specs.Append.{appended_tree, appended_register, root_unless_refused}
use Rattle.writing.specs.Sign.{signed_register}
use Rattle.writing.specs.Conditions.{AppendFits, SignFits}
use Rattle.writing.proofs.Orders.{left_done, left_refused}
use Rattle.writing.proofs.Verdicts.{passed_append, passed_sign}
use Rattle.writing.proofs.Tree.{appended_length}
use Rattle.writing.proofs.AfterAppend.{longer_within, append_belongs}
use Rattle.writing.proofs.Signed.{sign_belongs}
use Rattle.writing.proofs.Lent.{append_lent, sign_lent}
use Rattle.append_list.specs.Chunks.{chunks_of, zero_signatures}
use Rattle.append_list.specs.Append.{list_verdict, appended_list, list_root, after_list}
use Rattle.append_list.specs.Conditions.{ListFits}
use Rattle.append_list.proofs.Chunks.{Chunk}
use Rattle.append_list.proofs.Verdicts.{list_passed, passed_list}
use Rattle.append_list.proofs.Steps.{list_kept}
use Rattle.append_list.proofs.Passes.{bytes_long, bytes_more, singly_done}
use Rattle.append_list.proofs.One.{one_verdict, one_root, one_buffers}
use Rattle.append_list.proofs.Answers.{list_owed}
use Rattle.theorem_images.specs.Demand2.{Beyond, ListWrites}
use Rattle.theorem_images.proofs.Singles.{root_hash_lem, append_imaged, append_beyond, sign_imaged, sign_beyond}

module _ (F : List ℕ → List ℕ) (hf : HashFunction F) where
  -- ---- the images

  checked : (r : Register) (ss : List Slot) (sigs : List (List ℕ)) → Imaged F r ss sigs → Passed r
  checked r ss sigs m = (accepted_audited F r (imaged_accepted F hf r ss sigs m)).checked

  imaged_long : (r : Register) (ss : List Slot) (sigs : List (List ℕ)) (c : List ℕ) → Imaged F r ss sigs → Chunk c → AppendFits r c
      → length (appended_tree F r.tree r.n c) ≡ length r.tree
  imaged_long r ss sigs c m p a =
      appended_length F hf ss m.within r m.belongs c (longer_within F hf ss m.within r m.belongs c p.bytes a) a.tree

  imaged_more : (r : Register) (ss : List Slot) (sigs : List (List ℕ)) (c : List ℕ) → Imaged F r ss sigs → Chunk c → AppendFits r c
      → Imaged F (appended_register F r c) (ss ++ (held c ∷ [])) sigs
  imaged_more r ss sigs c m p a = append_imaged F r c hf p.bytes (passed_append r c (checked r ss sigs m) a) ss sigs m

  imaged_sign : (r : Register) (ss : List Slot) (sigs : List (List ℕ)) → Imaged F r ss sigs → SignFits r → Imaged F (signed_register r (zeros 64)) ss (sigs ++ (zeros 64 ∷ []))
  imaged_sign r ss sigs m f = sign_imaged F r (zeros 64) (length-replicate {A = ℕ} 64 0) (passed_sign r (checked r ss sigs m) f) ss sigs m

  pub list_imaged : (r : Register) (ss : List Slot) (sigs : List (List ℕ)) (ls bs : List ℕ) → Imaged F r ss sigs → Bytes bs → list_verdict r ls bs ≡ done
      → Imaged F (appended_list F r (chunks_of ls bs)) (ss ++ all_held (chunks_of ls bs)) (sigs ++ zero_signatures (length ls - 1))
  list_imaged r ss sigs ls bs m p e =
      list_kept F (λ x ds gs. Imaged F x ds gs) imaged_long imaged_more imaged_sign r ls bs ss sigs (list_passed r ls bs e).1 p m

  -- with buffers that hold bytes
  imaged_lent : (r : Register) (ss : List Slot) (sigs : List (List ℕ)) (ls bs : List ℕ) → Imaged F r ss sigs → Lent r → Bytes bs → ListFits r ls bs
      → Imaged F (appended_list F r (chunks_of ls bs)) (ss ++ all_held (chunks_of ls bs)) (sigs ++ zero_signatures (length ls - 1)) × Lent (appended_list F r (chunks_of ls bs))
  imaged_lent r ss sigs ls bs m l p f =
      list_kept F (λ x ds gs. Imaged F x ds gs × Lent x) (λ x ds gs c q. imaged_long x ds gs c q.0)
      (λ x ds gs c q s a. (imaged_more x ds gs c q.0 s a, append_lent F hf ds q.0.within x q.0.belongs c s.bytes a q.1))
      (λ x ds gs q s. (imaged_sign x ds gs q.0 s, sign_lent x (zeros 64) q.1 (bytes_zeros 64))) r ls bs ss sigs f p (m, l)

  list_accepted : (r : Register) (ls bs : List ℕ) → Lent r → Accepted F r → Bytes bs → list_verdict r ls bs ≡ done
      → Accepted F (appended_list F r (chunks_of ls bs)) × Lent (appended_list F r (chunks_of ls bs))
  list_accepted r ls bs l a p e =
      let m = ((audit_exact F hf).exactly r l).0 a in
      let w = imaged_lent r m.0 m.1 ls bs m.2 l p (list_passed r ls bs e).1 in
      (imaged_accepted F hf (appended_list F r (chunks_of ls bs)) _ _ w.0, w.1)

  -- ---- the chunk sequence alone

  list_belongs : (r : Register) (ss : List Slot) (ls bs : List ℕ) → Within ss → Belongs F r ss → Bytes bs → list_verdict r ls bs ≡ done
      → Within (ss ++ all_held (chunks_of ls bs)) × Belongs F (appended_list F r (chunks_of ls bs)) (ss ++ all_held (chunks_of ls bs))
  list_belongs r ss ls bs w b p e =
      list_kept F (λ x ds _. Within ds × Belongs F x ds)
      (λ x ds _ c q s a. appended_length F hf ds q.0 x q.1 c (longer_within F hf ds q.0 x q.1 c s.bytes a) a.tree)
      (λ x ds _ c q s a. (longer_within F hf ds q.0 x q.1 c s.bytes a, append_belongs F hf ds q.0 x q.1 c s.bytes a))
      (λ x ds _ q _. (q.0, sign_belongs F x (zeros 64) ds q.1)) r ls bs ss [] (list_passed r ls bs e).1 p (w, b)

  list_answers : (r : Register) (ss : List Slot) (ls bs : List ℕ) → Within ss → Belongs F r ss → Bytes bs → list_verdict r ls bs ≡ done
      → list_root F r ls bs ≡ F (stored_root_message (appended_list F r (chunks_of ls bs)).tree (appended_list F r (chunks_of ls bs)).n)
  unfolding list_root
  list_answers r ss ls bs w b p e = ap (λ (v : Verdict). root_unless_refused F v (appended_list F r (chunks_of ls bs))) e

-- ---- the bytes beyond

-- what is the same from a place on is the same from a later place on
further : (xs ys : List ℕ) (a b : ℕ) → a ≤ b → drop a xs ≡ drop a ys → drop b xs ≡ drop b ys
further xs ys a b h e =
    let k : a + (b - a) ≡ b = omega arith in
    ap (λ (m : ℕ). drop m xs) (sym k) ∙ sym (drop-drop (b - a) a xs) ∙ ap (drop (b - a)) e ∙ drop-drop (b - a) a ys ∙ ap (λ (m : ℕ). drop m ys) k

beyond_append : (F : List ℕ → List ℕ) (b : Buffers) (r : Register) (c : List ℕ) → Beyond b r → Beyond (buffers_of r) (appended_register F r c)
    → Beyond b (appended_register F r c)
unfolding appended_register used_tree entries used_bitfield entry_count
beyond_append F b r c p q =
    record {
      tree = q.tree ∙ further r.tree b.tree (32 + 40 * (2 * r.n - 1)) (32 + 40 * (2 * (r.n + 1) - 1)) (omega arith) p.tree;
      signatures = p.signatures;
      bitfield = q.bitfield ∙ further r.bitfield b.bitfield (used_bitfield r.n) (used_bitfield (r.n + 1)) (omega arith) p.bitfield;
      content = q.content ∙ further r.content b.content r.size (r.size + length c) (omega arith) p.content;
    }

beyond_sign : (b : Buffers) (r : Register) (signature : List ℕ) → Beyond b r → Beyond (buffers_of r) (signed_register r signature) → Beyond b (signed_register r signature)
unfolding signed_register used_signatures
beyond_sign b r signature p q =
    record {
      tree = p.tree;
      signatures = q.signatures ∙ further r.signatures b.signatures (32 + 64 * r.s) (32 + 64 * (r.s + 1)) (omega arith) p.signatures;
      bitfield = p.bitfield;
      content = p.content;
    }

-- nothing is written yet
beyond_none : (r : Register) → Beyond (buffers_of r) r
beyond_none r = record { tree = refl; signatures = refl; bitfield = refl; content = refl }

signed_tree : (r : Register) (signature : List ℕ) → Bytes r.tree → Bytes (signed_register r signature).tree
unfolding signed_register
signed_tree r signature t = t

module _ (F : List ℕ → List ℕ) (hf : HashFunction F) where
  more_bytes : (r : Register) (c : List ℕ) → Bytes r.tree → Chunk c → AppendFits r c → Bytes (appended_register F r c).tree
  unfolding appended_register
  more_bytes r c t p a = bytes_more F hf r c t p a

  list_beyond : (r : Register) (ls bs : List ℕ) → Lent r → Bytes bs → list_verdict r ls bs ≡ done → Beyond (buffers_of r) (appended_list F r (chunks_of ls bs))
  list_beyond r ls bs l p e =
      (list_kept F (λ x _ _. Bytes x.tree × Beyond (buffers_of r) x) (λ x _ _ c q s a. bytes_long F hf x c q.0 s a)
      (λ x _ _ c q s a. (more_bytes x c q.0 s a, beyond_append F (buffers_of r) x c q.1 (append_beyond F x c hf s.bytes q.0 a)))
      (λ x _ _ q s. (signed_tree x (zeros 64) q.0, beyond_sign (buffers_of r) x (zeros 64) q.1 (sign_beyond F x (zeros 64) (length-replicate {A = ℕ} 64 0) s))) r ls bs [] []
      (list_passed r ls bs e).1 p (l.tree, beyond_none r)
      ).1

-- ---- all of it

module _ (F : List ℕ → List ℕ) (r : Register) (ls bs : List ℕ) where
  list_buffers : list_verdict r ls bs ≡ done → after_list F r ls bs ≡ buffers_of (appended_list F r (chunks_of ls bs))
  unfolding after_list
  list_buffers e = left_done (list_verdict r ls bs) (buffers_of (appended_list F r (chunks_of ls bs))) (buffers_of r) e

  list_unchanged : (m : ℕ) (at : Spot) → list_verdict r ls bs ≡ refused m at → (after_list F r ls bs ≡ buffers_of r) × (list_root F r ls bs ≡ zeros 32)
  unfolding after_list list_root
  list_unchanged m at e = (
    left_refused (list_verdict r ls bs) (buffers_of (appended_list F r (chunks_of ls bs))) (buffers_of r) m at e,
    ap (λ (v : Verdict). root_unless_refused F v (appended_list F r (chunks_of ls bs))) e,
  )

pub list_writes : (F : List ℕ → List ℕ) → HashFunction F → ListWrites F
list_writes F hf =
    record {
      takes = λ r ls bs a. (λ e. (list_passed r ls bs e).1, λ f. passed_list r ls bs (accepted_audited F r a).checked f);
      one = λ r c. (one_verdict r c, one_root F r c, one_buffers F r c);
      stored = λ r ls bs e.
          record {
            buffers = list_buffers F r ls bs e;
            singly = λ l small p. singly_done F hf r ls bs l.tree small p e;
            owed = list_owed F r ls bs (list_passed r ls bs e).1;
            belongs = λ ss w b p. list_belongs F hf r ss ls bs w b p e;
            answers = λ ss w b p.
                let q = list_belongs F hf r ss ls bs w b p e in
                list_answers F hf r ss ls bs w b p e ∙ root_hash_lem F hf (appended_list F r (chunks_of ls bs)) (ss ++ all_held (chunks_of ls bs)) q.0 q.1;
            images = λ ss sigs m p. list_imaged F hf r ss sigs ls bs m p e;
            accepted = λ l a p. list_accepted F hf r ls bs l a p e;
            beyond = λ l p. list_beyond F hf r ls bs l p e;
          };
      unchanged = list_unchanged F;
    }
