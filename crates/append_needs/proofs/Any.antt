-- A job on any register that passes 2 to 6, whatever its entries are: each call finds room and is done, and the needs are its sizes and its runs.
-- Assumes nothing.
use Prim.Native.Nat.{ℕ, ◌+◌, ◌*◌, ◌≤◌, ◌<◌}
use mathlib.Core.Path.{◌≡◌, refl, sym, ap, ap₂, ◌∙◌}
use mathlib.Core.Bool.{true}
use mathlib.Core.List.{List, [], ◌∷◌, map, map-append}
use native.Mathlib.Omega.{arith}
use borrow.Author.Tests.{eq-eqb}
use lib.ListN.{length}
use Rattle.answer_types.specs.Verdict.{Verdict, done}
use Rattle.byte_strings.specs.Lists.{put, run, total, Bytes}
use Rattle.byte_strings.proofs.Lists.{length_put, take_put, total_append}
use Rattle.tree_index.specs.Tree.{entries, completed}
use Rattle.bitfield.specs.Image.{entry_count}
use Rattle.blake2b.specs.Runs.{runs}
use Rattle.file_format.specs.Sizes.{most_chunks, longest_chunk, used_tree, used_signatures, used_bitfield}
use Rattle.file_format.specs.Messages.{HashFunction}
use Rattle.file_format.specs.Entries.{leaf}
use Rattle.file_format.specs.Stored.{stored_root_message}
use Rattle.file_format.specs.Belongs.{Register}
use Rattle.checks.specs.Lengths.{all_short}
use Rattle.checks.proofs.Lengths.{short_head}
use Rattle.checks.proofs.Passed.{Passed, passed, passes}
use Rattle.checks.proofs.Steps.{signed_same, signed_next}
use Rattle.writing.specs.Append.{append_verdict, stored_entry, sibling, appended_tree, root_unless_refused, appended_register}
use Rattle.writing.specs.Sign.{sign_verdict, signed_register}
use Rattle.writing.specs.RootHash.{root_verdict, root_answer}
use Rattle.writing.specs.Conditions.{AppendFits}
use Rattle.writing.specs.Inner.{made}
use Rattle.writing.proofs.Made.{hashed}
use Rattle.writing.proofs.Climbed.{sibling_filled}
use Rattle.writing.proofs.Bits.{Stays, bits_stay}
use Rattle.writing.proofs.Verdicts.{passed_append, passed_sign}
use Rattle.append_list.proofs.Roots.{grown, headed, holds_bytes, roots_add}
use Rattle.append_needs.specs.Needs.{parent_runs, root_runs, need_of}
use Rattle.append_needs.specs.Theorems.{Added, EachRight, lengths_of, message_over, with_one, with_all, AllDone, parent_messages, parents_hashed, Work, Counted, CountsOfWorkForAll}
use Rattle.append_needs.proofs.Answers.{asked}
use Rattle.append_needs.proofs.Messages.{parent_runs_lem, parent_runs_one, stored_long, root_runs_of}
use Rattle.append_needs.proofs.Appends.{end_count, end_size, leaves_counted, as_many, after_one}

-- a register that passes the checks and has room for the new chunks xs
record Sound (r : Register) (xs : List Added) : Type 0 where
  passed : Passed r
  bytes : Bytes r.tree
  bound : r.size ≤ longest_chunk * r.n
  paid : r.s ≡ r.n
  each : EachRight xs
  count : r.n + length (lengths_of xs) ≤ most_chunks
  short : all_short (lengths_of xs) ≡ true
  tree : used_tree (r.n + length (lengths_of xs)) ≤ length r.tree
  signatures : used_signatures (r.n + length (lengths_of xs)) ≤ length r.signatures
  bitfield : used_bitfield (r.n + length (lengths_of xs)) ≤ length r.bitfield
  content : r.size + total (lengths_of xs) ≤ length r.content

module _ (F : List ℕ → List ℕ) (hf : HashFunction F) where
  -- ---- one chunk

  module _ (r : Register) (x : Added) (xs : List Added) (w : Sound r (x ∷ xs)) where
    abbrev chunk : List ℕ
    chunk = x.chunk

    abbrev k : ℕ
    k = length (lengths_of xs)

    fits : AppendFits r chunk
    unfolding used_tree used_bitfield entries entry_count total
    fits =
        record {
          fewer = omega (arith, w.count);
          short = (short_head (length chunk) (lengths_of xs) w.short).0;
          paid = w.paid;
          tree = omega (arith, w.tree);
          bitfield = omega (arith, w.bitfield);
          content = omega (arith, w.content);
        }

    proper : (d : ℕ) → (length (made F r.tree r.n (leaf F chunk) d).hash ≡ 32) × Bytes (made F r.tree r.n (leaf F chunk) d).hash
    proper = hashed F hf r.tree r.n chunk w.bytes w.each.0.bytes

    tree_long : length (appended_tree F r.tree r.n chunk) ≡ length r.tree
    tree_long = grown F r.tree r.n chunk proper fits.fewer fits.tree

    data_long : length (put r.content r.size chunk) ≡ length r.content
    data_long = length_put r.content r.size chunk (omega (arith, fits.content))

    -- a signature is owed then
    appended : Passed (appended_register F r chunk)
    unfolding appended_register
    appended =
        let bits : Stays _ r.bitfield = bits_stay r.bitfield r.n fits.fewer fits.bitfield in
        record {
          count = omega (arith, fits.fewer);
          signed = sym (signed_next (r.n + 1) r.s (λ e. omega (arith, w.paid))) ∙ eq-eqb (r.s + 1) (r.n + 1) (ap (λ (m : ℕ). m + 1) w.paid);
          tree = omega (arith, fits.tree, tree_long);
          signatures = w.passed.signatures;
          bitfield = omega (arith, fits.bitfield, bits.long);
          content = omega (arith, fits.content, data_long);
          tree_front_lem = headed F r.tree r.n chunk proper fits.fewer fits.tree ∙ w.passed.tree_front_lem;
          signatures_front = w.passed.signatures_front;
          bitfield_front = bits.front ∙ w.passed.bitfield_front;
          adds = roots_add F r.tree r.n chunk proper fits.fewer fits.tree (omega (arith, w.passed.adds, w.bound, fits.fewer, fits.short))
              ∙ ap (λ (m : ℕ). m + length chunk) w.passed.adds;
        }

    append_done : append_verdict r chunk ≡ done
    append_done = passed_append r chunk w.passed fits

    room : used_signatures (r.s + 1) ≤ length r.signatures
    unfolding used_signatures
    room = omega (arith, w.signatures, w.paid)

    behind : used_signatures r.s + length x.signature ≤ length r.signatures
    unfolding used_signatures
    behind = omega (arith, room, w.each.0.long)

    sign_done : sign_verdict (appended_register F r chunk) ≡ done
    unfolding appended_register
    sign_done = passed_sign (appended_register F r chunk) appended (record { owed = ap (λ (m : ℕ). m + 1) w.paid; room = room })

    -- and is not owed any more
    kept : length (put r.signatures (used_signatures r.s) x.signature) ≡ length r.signatures
    kept = length_put r.signatures (used_signatures r.s) x.signature behind

    stored : Passed (with_one F r x)
    unfolding with_one signed_register appended_register used_signatures
    stored =
        record {
          count = appended.count;
          signed = sym (signed_same (r.n + 1) (r.s + 1) (ap (λ (m : ℕ). m + 1) w.paid));
          tree = appended.tree;
          signatures = omega (arith, kept, room);
          bitfield = appended.bitfield;
          content = appended.content;
          tree_front_lem = appended.tree_front_lem;
          signatures_front =
              take_put 32 r.signatures (used_signatures r.s) x.signature (omega arith) (omega (arith, behind)) ∙ w.passed.signatures_front;
          bitfield_front = appended.bitfield_front;
          adds = appended.adds;
        }

    next_bytes : Bytes (appended_tree F r.tree r.n chunk)
    next_bytes = holds_bytes F r.tree r.n chunk proper fits.fewer fits.tree w.bytes

    next_tree : used_tree (r.n + 1 + k) ≤ length (appended_tree F r.tree r.n chunk)
    unfolding used_tree entries
    next_tree = omega (arith, w.tree, tree_long)

    next_bitfield : used_bitfield (r.n + 1 + k) ≤ length (appended_register F r chunk).bitfield
    unfolding appended_register used_bitfield entry_count
    next_bitfield = omega (arith, w.bitfield, (bits_stay r.bitfield r.n fits.fewer fits.bitfield).long)

    next_content : r.size + length chunk + total (lengths_of xs) ≤ length (put r.content r.size chunk)
    unfolding total
    next_content = omega (arith, w.content, data_long)

    next_signatures : used_signatures (r.n + 1 + k) ≤ length (put r.signatures (used_signatures r.s) x.signature)
    unfolding used_signatures
    next_signatures = omega (arith, w.signatures, kept)

    next : Sound (with_one F r x) xs
    unfolding with_one signed_register appended_register
    next =
        record {
          passed = stored;
          bytes = next_bytes;
          bound = omega (arith, w.bound, fits.short);
          paid = ap (λ (m : ℕ). m + 1) w.paid;
          each = w.each.1;
          count = omega (arith, w.count);
          short = (short_head (length chunk) (lengths_of xs) w.short).1;
          tree = next_tree;
          signatures = next_signatures;
          bitfield = next_bitfield;
          content = next_content;
        }

    append_runs : total (map (runs []) (parent_messages F r.tree r.n chunk)) ≡ completed r.n * parent_runs
    unfolding parent_messages stored_entry
    append_runs =
        as_many (λ d. message_over (stored_entry r.tree (sibling r.n d)) (made F r.tree r.n (leaf F chunk) d)) 0 (completed r.n)
        (λ d i h.
        let l : d < completed r.n = omega arith in
        parent_runs_lem _ _ _ (stored_long r.tree r.n (sibling r.n d) w.passed.tree (sibling_filled r.n d fits.fewer l)) (proper d).0 ∙ sym parent_runs_one)

  -- ---- all of them

  all_done_lem : (r : Register) (xs : List Added) → Sound r xs → AllDone F r xs
  unfolding AllDone
  all_done_lem r [] w = tt
  all_done_lem r (x ∷ xs) w = (append_done r x xs w, sign_done r x xs w, all_done_lem (with_one F r x) xs (next r x xs w))

  at_end : (r : Register) (xs : List Added) → Sound r xs → Sound (with_all F r xs) []
  unfolding with_all
  at_end r [] w = w
  at_end r (x ∷ xs) w = at_end (with_one F r x) xs (next r x xs w)

  parents_counted : (r : Register) (xs : List Added) → Sound r xs
      → total (run (λ i. completed i * parent_runs) r.n (length (lengths_of xs))) ≡ total (map (runs []) (parents_hashed F r xs))
  unfolding run total parents_hashed
  parents_counted r [] w = refl
  parents_counted r (x ∷ xs) w =
      ap₂ ◌+◌ (sym (append_runs r x xs w))
      (ap (λ (m : ℕ). total (run (λ i. completed i * parent_runs) m (length (lengths_of xs)))) (sym (after_one F r x)) ∙ parents_counted (with_one F r x) xs (next r x xs w))
      ∙ sym (ap total (map-append (runs []) (parent_messages F r.tree r.n x.chunk) (parents_hashed F (with_one F r x) xs))
      ∙ total_append (map (runs []) (parent_messages F r.tree r.n x.chunk)) (map (runs []) (parents_hashed F (with_one F r x) xs)))

  -- ---- the job

  module _ (r : Register) (xs : List Added) (j : Work r xs) where
    sound : Sound r xs
    unfolding need_of
    sound =
        let a = asked r.n r.size (lengths_of xs) j.taken in
        record {
          passed = (passed r done j.checked).0;
          bytes = j.lent.tree;
          bound = a.held;
          paid = j.paid;
          each = j.each;
          count = a.count;
          short = a.listed.short;
          tree = j.room.tree;
          signatures = j.room.signatures;
          bitfield = j.room.bitfield;
          content = j.room.content;
        }

    end : Sound (with_all F r xs) []
    end = at_end r xs sound

    counted : Counted F r xs (with_all F r xs) (need_of r.n r.size (lengths_of xs))
    unfolding need_of
    counted =
        let e : r.n + length (lengths_of xs) ≡ (with_all F r xs).n = sym (end_count F r xs) in
        record {
          tree = ap used_tree e;
          signatures = ap used_signatures (e ∙ sym end.paid);
          bitfield = ap used_bitfield e;
          content = sym (end_size F r xs);
          leaves = leaves_counted xs;
          parents = parents_counted r xs sound;
          root = ap root_runs e ∙ root_runs_of (with_all F r xs).tree (with_all F r xs).n end.passed.tree;
        }

    rooted : root_answer F (with_all F r xs) ≡ F (stored_root_message (with_all F r xs).tree (with_all F r xs).n)
    unfolding root_answer root_verdict
    rooted = ap (λ (v : Verdict). root_unless_refused F v (with_all F r xs)) (passes (with_all F r xs) _ end.passed)

pub counts_of_work : CountsOfWorkForAll
counts_of_work F hf =
    record {
      all_done = λ r xs j. all_done_lem F hf r xs (sound F hf r xs j);
      paid = λ r xs j. (end F hf r xs j).paid;
      counted = counted F hf;
      rooted = rooted F hf;
    }
