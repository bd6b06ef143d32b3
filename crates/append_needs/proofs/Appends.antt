-- The needs are those of the appends. Assumes nothing.
use Prim.Native.Nat.{ℕ, zero, suc, ◌+◌, ◌*◌, ◌≤◌, ◌<◌}
use mathlib.Core.Path.{◌≡◌, refl, sym, ap, ap₂, ◌∙◌}
use mathlib.Core.List.{List, [], ◌∷◌, ◌++◌, map, map-append}
use native.Mathlib.Nat.{zero-add, add-zero, zero-mul}
use native.Mathlib.Numerals.{add-one}
use native.Mathlib.Omega.{arith}
use lib.ListN.{length, get_or, length-replicate}
use Rattle.answer_types.specs.Verdict.{Verdict}
use Rattle.byte_strings.specs.Lists.{run, total}
use Rattle.byte_strings.proofs.Lists.{get_or_run, total_append}
use Rattle.tree_index.specs.Tree.{completed, filled_by}
use Rattle.blake2b.specs.Runs.{runs}
use Rattle.file_format.specs.Sizes.{longest_chunk, used_tree, used_signatures, used_bitfield}
use Rattle.file_format.specs.Messages.{HashFunction, leaf_message}
use Rattle.file_format.specs.Entries.{Entry, hole, leaf, parent_of, entry_at}
use Rattle.file_format.specs.Images.{leaves}
use Rattle.file_format.specs.Stored.{stored_root_message}
use Rattle.file_format.specs.Slots.{Slot, held, all_held, contents, Within}
use Rattle.file_format.proofs.Slots.{contents_length}
use Rattle.file_format.specs.Belongs.{Register, Belongs}
use Rattle.file_format.proofs.Spans.{span_le, span_all}
use Rattle.file_format.proofs.Nodes.{entry_at_proper}
use Rattle.checks.proofs.Passed.{passes}
use Rattle.writing.specs.Append.{stored_entry, sibling, new_entries, root_unless_refused, appended_register}
use Rattle.writing.specs.Sign.{signed_register}
use Rattle.writing.specs.RootHash.{root_verdict, root_answer}
use Rattle.writing.specs.Inner.{made}
use Rattle.writing.proofs.Made.{climb_made}
use Rattle.writing.proofs.Climb.{new_entries_lem}
use Rattle.writing.proofs.Climbed.{sibling_filled}
use Rattle.writing.proofs.AfterAppend.{longer_within}
use Rattle.audit.proofs.Audited.{accepted_audited}
use Rattle.append_needs.specs.Needs.{leaf_runs, parent_runs, root_runs, need_of}
use Rattle.append_needs.specs.Theorems.{Added, chunks_of, lengths_of, message_over, with_one, with_all, parent_messages, parents_hashed, Job, Counted, NeedsOfAppendsForAll}
use Rattle.append_needs.proofs.Messages.{leaf_runs_of, parent_runs_lem, parent_runs_one, stored_long, root_runs_of}
use Rattle.append_needs.proofs.Answers.{asked}
use Rattle.append_needs.proofs.Chain.{Ready, ready_passed, ready_accepted, fits, next, all_done_lem, at_end}

-- ---- n, s and the data size afterwards

module _ (F : List ℕ → List ℕ) where
  pub end_count : (r : Register) (xs : List Added) → (with_all F r xs).n ≡ r.n + length (lengths_of xs)
  unfolding with_all with_one signed_register appended_register
  end_count r [] = sym (add-zero r.n)
  end_count r (x ∷ xs) = end_count (with_one F r x) xs ∙ omega arith

  pub end_size : (r : Register) (xs : List Added) → (with_all F r xs).size ≡ r.size + total (lengths_of xs)
  unfolding with_all with_one signed_register appended_register total
  end_size r [] = sym (add-zero r.size)
  end_size r (x ∷ xs) = end_size (with_one F r x) xs ∙ omega arith

-- ---- leaves

pub leaves_counted : (xs : List Added) → total (map leaf_runs (lengths_of xs)) ≡ total (map (λ (x : Added). runs [] (leaf_message x.chunk)) xs)
unfolding total
leaves_counted [] = refl
leaves_counted (x ∷ xs) = ap₂ ◌+◌ (leaf_runs_of x.chunk) (leaves_counted xs)

-- ---- parents

-- messages that all take the runs of a parent
pub as_many : (g : ℕ → List ℕ) (i m : ℕ) → ((j : ℕ) → i ≤ j → j < i + m → runs [] (g j) ≡ parent_runs) → total (map (runs []) (run g i m)) ≡ m * parent_runs
unfolding run total
as_many g i zero h = sym (zero-mul parent_runs)
as_many g i (suc m) h =
    ap₂ ◌+◌ (h i (omega arith) (omega arith)) (as_many g (suc i) m (λ j x q. h j (omega arith) (omega arith))) ∙ omega (arith, parent_runs_one)

each_long : (f : ℕ → Entry) (is : List ℕ) (j : ℕ) → ((i : ℕ) → length (f i).hash ≡ 32) → length (get_or (map f is) j hole).hash ≡ 32
unfolding hole
each_long f [] j h = length-replicate {A = ℕ} 32 0
each_long f (i ∷ is) zero h = h i
each_long f (i ∷ is) (suc j) h = each_long f is j h

module _ (F : List ℕ → List ℕ) where
  new_run : (t : List ℕ) (n : ℕ) (c : List ℕ) → new_entries F t n c ≡ run (made F t n (leaf F c)) 0 (suc (completed n))
  unfolding new_entries made
  new_run t n c = climb_made F t n (leaf F c) 0 (completed n)

  -- what an append hashes, depth by depth
  hashed_from : (t : List ℕ) (n : ℕ) (e : Entry) (i m : ℕ)
      → map (λ (x : Entry). x.hash) (run (made F t n e) (suc i) m) ≡ map F (run (λ d. message_over (stored_entry t (sibling n d)) (made F t n e d)) i m)
  unfolding run made parent_of
  hashed_from t n e i zero = refl
  hashed_from t n e i (suc m) =
      ap (λ (l : List (List ℕ)). F (message_over (stored_entry t (sibling n i)) (made F t n e i)) ∷ l) (hashed_from t n e (suc i) m)

  hashed : (t : List ℕ) (n : ℕ) (c : List ℕ)
      → map (λ (x : Entry). x.hash) (new_entries F t n c) ≡ F (leaf_message c) ∷ map F (parent_messages F t n c)
  unfolding parent_messages run made leaf
  hashed t n c =
      ap (map (λ (x : Entry). x.hash)) (new_run t n c)
      ∙ ap (λ (l : List (List ℕ)). F (leaf_message c) ∷ l) (hashed_from t n (leaf F c) 0 (completed n))

  pub after_one : (r : Register) (x : Added) → (with_one F r x).n ≡ suc r.n
  unfolding with_one signed_register appended_register
  after_one r x = add-one r.n

  module _ (hf : HashFunction F) where
    -- one append
    module _ {r : Register} {ss : List Slot} {x : Added} {xs : List Added} (w : Ready F r ss (x ∷ xs)) where
      made_long : (d : ℕ) → d < completed r.n → length (made F r.tree r.n (leaf F x.chunk) d).hash ≡ 32
      made_long d h =
          let a = fits F hf w in
          let v = longer_within F hf ss w.within r w.belongs x.chunk w.each.0.bytes a in
          let same : run (made F r.tree r.n (leaf F x.chunk)) 0 (suc (completed r.n)) ≡ map (entry_at F (leaves F (ss ++ (held x.chunk ∷ [])))) (filled_by r.n) =
          sym (new_run r.tree r.n x.chunk) ∙ new_entries_lem F hf ss w.within r w.belongs x.chunk (omega (arith, a.fewer))
          in
          let at : get_or (run (made F r.tree r.n (leaf F x.chunk)) 0 (suc (completed r.n))) d hole ≡ made F r.tree r.n (leaf F x.chunk) d =
          get_or_run (made F r.tree r.n (leaf F x.chunk)) 0 (suc (completed r.n)) d hole (omega arith)
          ∙ ap (made F r.tree r.n (leaf F x.chunk)) (zero-add d)
          in
          ap (λ (e : Entry). length e.hash) (sym at ∙ ap (λ (l : List Entry). get_or l d hole) same)
          ∙ each_long (entry_at F (leaves F (ss ++ (held x.chunk ∷ [])))) (filled_by r.n) d (λ i. (entry_at_proper F hf (ss ++ (held x.chunk ∷ [])) v i).long)

      append_runs : total (map (runs []) (parent_messages F r.tree r.n x.chunk)) ≡ completed r.n * parent_runs
      unfolding parent_messages stored_entry
      append_runs =
          as_many (λ d. message_over (stored_entry r.tree (sibling r.n d)) (made F r.tree r.n (leaf F x.chunk) d)) 0 (completed r.n)
          (λ d i h.
          let l : d < completed r.n = omega arith in
          parent_runs_lem _ _ _ (stored_long r.tree r.n (sibling r.n d) (ready_passed F hf w).tree (sibling_filled r.n d (fits F hf w).fewer l)) (made_long d l)
          ∙ sym parent_runs_one)

    parents_counted : (r : Register) (ss : List Slot) (xs : List Added) → Ready F r ss xs
        → total (run (λ i. completed i * parent_runs) r.n (length (lengths_of xs))) ≡ total (map (runs []) (parents_hashed F r xs))
    unfolding run total parents_hashed
    parents_counted r ss [] w = refl
    parents_counted r ss (x ∷ xs) w =
        ap₂ ◌+◌ (sym (append_runs w))
        (ap (λ (m : ℕ). total (run (λ i. completed i * parent_runs) m (length (lengths_of xs)))) (sym (after_one r x))
        ∙ parents_counted (with_one F r x) (ss ++ (held x.chunk ∷ [])) xs (next F hf w))
        ∙ sym (ap total (map-append (runs []) (parent_messages F r.tree r.n x.chunk) (parents_hashed F (with_one F r x) xs))
        ∙ total_append (map (runs []) (parent_messages F r.tree r.n x.chunk)) (map (runs []) (parents_hashed F (with_one F r x) xs)))

    -- ---- the job

    module _ {r : Register} {ss : List Slot} {xs : List Added} (j : Job F r ss xs) where
      ready : Ready F r ss xs
      unfolding need_of
      ready =
          let a = asked r.n r.size (lengths_of xs) j.taken in
          let c = (accepted_audited F r j.accepted).checked in
          record {
            within = j.within;
            belongs = j.belongs;
            signed = record { count = c.signed; long = c.signatures; front = c.signatures_front };
            paid = j.paid;
            each = j.each;
            count = a.count;
            short = a.listed.short;
            tree = j.room.tree;
            signatures = j.room.signatures;
            bitfield = j.room.bitfield;
            content = j.room.content;
          }

      end : Ready F (with_all F r xs) (ss ++ all_held (chunks_of xs)) []
      end = at_end F hf r ss xs ready

      counted : Counted F r xs (with_all F r xs) (need_of r.n r.size (lengths_of xs))
      unfolding need_of
      counted =
          let e : r.n + length (lengths_of xs) ≡ (with_all F r xs).n = sym (end_count F r xs) in
          record {
            tree = ap used_tree e;
            signatures = ap used_signatures (e ∙ sym end.paid);
            bitfield = ap used_bitfield e;
            content = sym (end_size F r xs);
            leaves = leaves_counted xs;
            parents = parents_counted r ss xs ready;
            root = ap root_runs e ∙ root_runs_of (with_all F r xs).tree (with_all F r xs).n (ready_passed F hf end).tree;
          }

      rooted : root_answer F (with_all F r xs) ≡ F (stored_root_message (with_all F r xs).tree (with_all F r xs).n)
      unfolding root_answer root_verdict
      rooted =
          ap (λ (v : Verdict). root_unless_refused F v (with_all F r xs))
          (passes (with_all F r xs) _ (ready_passed F hf end))

-- 9 is for numbers that no register of chunks has
size_fits_lem : (F : List ℕ → List ℕ) (r : Register) (ss : List Slot) → Within ss → Belongs F r ss → r.size ≤ longest_chunk * r.n
size_fits_lem F r ss w b = omega (arith, span_le (contents ss) longest_chunk 0 (length (contents ss)) w.short, span_all (contents ss), contents_length ss, b.count, b.total)

pub needs_of_appends : NeedsOfAppendsForAll
needs_of_appends F hf =
    record {
      size_fits = size_fits_lem F;
      all_done = λ r ss xs j. all_done_lem F hf r ss xs (ready F hf j);
      accepted = λ r ss xs j. ready_accepted F hf (end F hf j);
      paid = λ r ss xs j. (end F hf j).paid;
      belongs = λ r ss xs j. (end F hf j).belongs;
      counted = λ r ss xs j. counted F hf j;
      hashed = hashed F;
      rooted = λ r ss xs j. rooted F hf j;
    }
