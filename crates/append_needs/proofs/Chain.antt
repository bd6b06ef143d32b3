-- A job's chunks one behind the other: each call finds room and is done, and what it leaves is ready for the next. Assumes nothing.
use Prim.Native.Nat.{ℕ, ◌+◌, ◌≤◌}
use mathlib.Core.Path.{◌≡◌, sym, ap, ◌∙◌, subst}
use mathlib.Core.Bool.{true}
use mathlib.Core.List.{List, [], ◌∷◌, ◌++◌, append-nil, append_assoc}
use native.Mathlib.Omega.{arith}
use borrow.Author.Tests.{eq-eqb}
use lib.ListN.{length}
use Rattle.answer_types.specs.Verdict.{done}
use Rattle.byte_strings.specs.Lists.{put, total}
use Rattle.byte_strings.proofs.Lists.{length_put, take_put}
use Rattle.tree_index.specs.Tree.{entries}
use Rattle.bitfield.specs.Image.{entry_count}
use Rattle.file_format.specs.Sizes.{most_chunks, used_tree, used_signatures, used_bitfield}
use Rattle.file_format.specs.Messages.{HashFunction}
use Rattle.file_format.specs.Slots.{Slot, held, all_held, Within}
use Rattle.file_format.specs.Belongs.{Register, Belongs}
use Rattle.checks.proofs.Passed.{Passed}
use Rattle.checks.proofs.Steps.{signed_same, signed_next}
use Rattle.writing.specs.Append.{append_verdict, appended_register}
use Rattle.writing.specs.Sign.{sign_verdict, signed_register}
use Rattle.writing.specs.Conditions.{AppendFits}
use Rattle.writing.proofs.Verdicts.{passed_append, passed_sign}
use Rattle.writing.proofs.AfterAppend.{longer_within, append_belongs}
use Rattle.writing.proofs.Bits.{bits_stay}
use Rattle.writing.proofs.Signed.{sign_belongs}
use Rattle.writing.proofs.Tree.{appended_length}
use Rattle.audit.specs.Audit.{Accepted}
use Rattle.audit.proofs.Audited.{accepted_audited}
use Rattle.audit.proofs.Accepts.{Signed, belongs_accepted}
use Rattle.checks.specs.Lengths.{all_short}
use Rattle.append_needs.specs.Theorems.{Added, EachRight, chunks_of, lengths_of, with_one, with_all, AllDone}
use Rattle.checks.proofs.Lengths.{short_head}

-- a register that belongs to ss and has room for the new chunks xs
pub record Ready (F : List ℕ → List ℕ) (r : Register) (ss : List Slot) (xs : List Added) : Type 0 where
  pub within : Within ss
  pub belongs : Belongs F r ss
  pub signed : Signed r
  pub paid : r.s ≡ r.n
  pub each : EachRight xs
  pub count : r.n + length (lengths_of xs) ≤ most_chunks
  pub short : all_short (lengths_of xs) ≡ true
  pub tree : used_tree (r.n + length (lengths_of xs)) ≤ length r.tree
  pub signatures : used_signatures (r.n + length (lengths_of xs)) ≤ length r.signatures
  pub bitfield : used_bitfield (r.n + length (lengths_of xs)) ≤ length r.bitfield
  pub content : r.size + total (lengths_of xs) ≤ length r.content

module _ (F : List ℕ → List ℕ) (hf : HashFunction F) where
  belongs_passed : (r : Register) (ss : List Slot) → Within ss → Belongs F r ss → Signed r → Passed r
  belongs_passed r ss w b s = (accepted_audited F r (belongs_accepted F hf ss w r b s)).checked

  pub ready_passed : {r : Register} {ss : List Slot} {xs : List Added} → Ready F r ss xs → Passed r
  ready_passed {r} {ss} w = belongs_passed r ss w.within w.belongs w.signed

  pub ready_accepted : {r : Register} {ss : List Slot} {xs : List Added} → Ready F r ss xs → Accepted F r
  ready_accepted {r} {ss} w = belongs_accepted F hf ss w.within r w.belongs w.signed

  -- ---- one chunk

  module _ {r : Register} {ss : List Slot} {x : Added} {xs : List Added} (w : Ready F r ss (x ∷ xs)) where
    abbrev chunk : List ℕ
    chunk = x.chunk

    abbrev k : ℕ
    k = length (lengths_of xs)

    pub fits : AppendFits r chunk
    unfolding used_tree used_bitfield entries entry_count total
    fits =
        record {
          fewer = omega (arith, w.count);
          short = (short_head (length chunk) (lengths_of xs) w.short).0;
          paid = w.paid;
          tree = omega (arith, w.tree);
          bitfield = omega (arith, w.bitfield);
          content = omega (arith, w.content);
        }

    longer : Within (ss ++ (held chunk ∷ []))
    longer = longer_within F hf ss w.within r w.belongs chunk w.each.0.bytes fits

    appended_belongs : Belongs F (appended_register F r chunk) (ss ++ (held chunk ∷ []))
    appended_belongs = append_belongs F hf ss w.within r w.belongs chunk w.each.0.bytes fits

    append_done : append_verdict r chunk ≡ done
    append_done = passed_append r chunk (ready_passed w) fits

    -- a signature is owed then
    owing : Signed (appended_register F r chunk)
    unfolding appended_register
    owing =
        record {
          count = sym (signed_next (r.n + 1) r.s (λ e. omega (arith, w.paid))) ∙ eq-eqb (r.s + 1) (r.n + 1) (ap (λ (m : ℕ). m + 1) w.paid);
          long = w.signed.long;
          front = w.signed.front;
        }

    room : used_signatures (r.s + 1) ≤ length r.signatures
    unfolding used_signatures
    room = omega (arith, w.signatures, w.paid)

    behind : used_signatures r.s + length x.signature ≤ length r.signatures
    unfolding used_signatures
    behind = omega (arith, room, w.each.0.long)

    sign_done : sign_verdict (appended_register F r chunk) ≡ done
    unfolding appended_register
    sign_done =
        passed_sign (appended_register F r chunk) (belongs_passed (appended_register F r chunk) (ss ++ (held chunk ∷ [])) longer appended_belongs owing)
        (record { owed = ap (λ (m : ℕ). m + 1) w.paid; room = room })

    pub both_done : (append_verdict r chunk ≡ done) × (sign_verdict (appended_register F r chunk) ≡ done)
    both_done = (append_done, sign_done)

    -- and is not owed any more
    stored : Signed (with_one F r x)
    unfolding with_one signed_register appended_register used_signatures
    stored =
        record {
          count = sym (signed_same (r.n + 1) (r.s + 1) (ap (λ (m : ℕ). m + 1) w.paid));
          long = omega (arith, length_put r.signatures (used_signatures r.s) x.signature behind, room);
          front = take_put 32 r.signatures (used_signatures r.s) x.signature (omega arith) (omega (arith, behind)) ∙ w.signed.front;
        }

    next_tree : used_tree (r.n + 1 + k) ≤ length (appended_register F r chunk).tree
    unfolding appended_register used_tree entries
    next_tree = omega (arith, w.tree, appended_length F hf ss w.within r w.belongs chunk longer fits.tree)

    next_bitfield : used_bitfield (r.n + 1 + k) ≤ length (appended_register F r chunk).bitfield
    unfolding appended_register used_bitfield entry_count
    next_bitfield = omega (arith, w.bitfield, (bits_stay r.bitfield r.n fits.fewer fits.bitfield).long)

    next_content : r.size + length chunk + total (lengths_of xs) ≤ length (appended_register F r chunk).content
    unfolding appended_register total
    next_content = omega (arith, w.content, length_put r.content r.size chunk fits.content)

    next_signatures : used_signatures (r.n + 1 + k) ≤ length (put r.signatures (used_signatures r.s) x.signature)
    unfolding used_signatures
    next_signatures = omega (arith, w.signatures, length_put r.signatures (used_signatures r.s) x.signature behind)

    pub next : Ready F (with_one F r x) (ss ++ (held chunk ∷ [])) xs
    unfolding with_one signed_register appended_register
    next =
        record {
          within = longer;
          belongs = sign_belongs F (appended_register F r chunk) x.signature (ss ++ (held chunk ∷ [])) appended_belongs;
          signed = stored;
          paid = ap (λ (m : ℕ). m + 1) w.paid;
          each = w.each.1;
          count = omega (arith, w.count);
          short = (short_head (length chunk) (lengths_of xs) w.short).1;
          tree = next_tree;
          signatures = next_signatures;
          bitfield = next_bitfield;
          content = next_content;
        }

  -- ---- all of them

  pub all_done_lem : (r : Register) (ss : List Slot) (xs : List Added) → Ready F r ss xs → AllDone F r xs
  unfolding AllDone
  all_done_lem r ss [] w = tt
  all_done_lem r ss (x ∷ xs) w =
      let b = both_done w in
      (b.0, b.1, all_done_lem (with_one F r x) (ss ++ (held x.chunk ∷ [])) xs (next w))

  pub at_end : (r : Register) (ss : List Slot) (xs : List Added) → Ready F r ss xs → Ready F (with_all F r xs) (ss ++ all_held (chunks_of xs)) []
  unfolding with_all all_held chunks_of
  at_end r ss [] w = subst (λ (l : List Slot). Ready F r l []) (sym (append-nil ss)) w
  at_end r ss (x ∷ xs) w =
      subst (λ (l : List Slot). Ready F (with_all F (with_one F r x) xs) l []) (append_assoc ss (held x.chunk ∷ []) (all_held (chunks_of xs)))
      (at_end (with_one F r x) (ss ++ (held x.chunk ∷ [])) xs (next w))
