-- What the code of a search needs of the definitions, and what a search of a register answers that belongs to chunks, held or released.
-- Assumes nothing.
use Prim.Native.Nat.{ℕ, ◌+◌, ◌-◌, ◌*◌, ◌≤◌, ◌<◌}
use mathlib.Core.Path.{◌≡◌, sym, ap, ◌∙◌}
use mathlib.Core.Bool.{Bool}
use mathlib.Core.List.{List, ◌++◌}
use native.Mathlib.Nat.{zero-add}
use native.Mathlib.Omega.{arith}
use lib.ListN.{length}
use lib.Seq.{take_all}
use Rattle.answer_types.specs.Verdict.{Verdict, done}
use Rattle.byte_strings.specs.Lists.{part, run, joined}
use Rattle.byte_strings.specs.Lowest.{lowest}
use Rattle.byte_strings.proofs.Lists.{part_part, part_front, part_behind, part_joined}
use Rattle.byte_strings.proofs.Lowest.{lowest_agree}
use Rattle.tree_index.specs.Tree.{filled}
use Rattle.bitfield.specs.Index.{index_bytes}
use Rattle.bitfield.specs.Image.{data_bytes, tree_bytes, entry, entry_count, entries_for, entries_of}
use Rattle.bitfield.specs.Append.{bits_place}
use Rattle.bitfield.specs.Release.{stored_held}
use Rattle.bitfield.proofs.Image.{length_data, length_tree, length_entry}
use Rattle.bitfield.proofs.Levels.{length_index}
use Rattle.file_format.specs.Sizes.{most_chunks}
use Rattle.file_format.specs.Slots.{Slot, held_in}
use Rattle.file_format.specs.Belongs.{Register, Belongs}
use Rattle.file_format.proofs.Held.{bits_cut, stored_held_lem}
use Rattle.checks.specs.Checks.{judged, register_checks}
use Rattle.checks.proofs.Passed.{passed}
use Rattle.search.specs.Search.{first_missing, answer, sought_unless, search_for}
use Rattle.search.specs.Inner.{DataIn}
use Rattle.search.specs.Theorems.{IndexFollows, SearchAnswersForAll}
use Rattle.search.proofs.Steps.{data_in}
use Rattle.search.proofs.Follows.{search_follows}

-- ---- the call

module _ (r : Register) (from : ℕ) where
  pub search_by : (v : Verdict) → v ≡ judged (register_checks r) done → sought_unless v (first_missing r.bitfield r.n from) ≡ search_for r from
  unfolding search_for
  search_by v e = ap (λ (x : Verdict). sought_unless x (first_missing r.bitfield r.n from)) e

  pub search_room : done ≡ judged (register_checks r) done → (r.n ≤ most_chunks) × DataIn r.bitfield r.n
  search_room e = let p = (passed r done (sym e)).0 in (p.count, data_in r.bitfield r.n p.bitfield)

-- ---- a bitfield file whose entries are those of two tests

module _ (xs : List ℕ) (n : ℕ) (held known : ℕ → Bool) (cut : part xs 32 (3328 * entry_count n) ≡ joined (run (entry held known) 0 (entry_count n))) where
  -- an entry of the file, and what it is
  abbrev the_entry : ℕ → List ℕ
  the_entry e = entry held known e

  stored_part : (e a k : ℕ) → e < entry_count n → a + k ≤ 3328 → part xs (bits_place e + a) k ≡ part (the_entry e) a k
  unfolding bits_place
  stored_part e a k h l =
      let p : 32 + 3328 * e + a ≡ 32 + (e * 3328 + a) = omega arith in
      ap (λ (x : ℕ). part xs x k) p
      ∙ sym (part_part xs 32 (3328 * entry_count n) (e * 3328 + a) k (omega arith))
      ∙ ap (λ (x : List ℕ). part x (e * 3328 + a) k) cut
      ∙ sym (part_part (joined (run the_entry 0 (entry_count n))) (e * 3328) 3328 a k l)
      ∙ ap (λ (x : List ℕ). part x a k)
      (part_joined the_entry 3328 (length_entry held known) 0 (entry_count n) e h ∙ ap the_entry (zero-add e))

  data_is : (e : ℕ) → e < entry_count n → part xs (bits_place e) 1024 ≡ data_bytes held e
  unfolding entry
  data_is e h =
      let p : bits_place e ≡ bits_place e + 0 = omega arith in
      ap (λ (x : ℕ). part xs x 1024) p ∙ stored_part e 0 1024 h (omega arith)
      ∙ part_front (data_bytes held e) (tree_bytes known e ++ index_bytes (data_bytes held e)) 1024 (length_data held e)

  index_is : (e : ℕ) → e < entry_count n → part xs (bits_place e + 3072) 256 ≡ index_bytes (data_bytes held e)
  unfolding entry part
  index_is e h =
      let d : List ℕ = data_bytes held e in
      let t : List ℕ = tree_bytes known e in
      stored_part e 3072 256 h (omega arith)
      ∙ part_behind d (t ++ index_bytes d) 1024 2048 256 (length_data held e)
      ∙ part_behind t (index_bytes d) 2048 0 256 (length_tree known e)
      ∙ take_all 256 (index_bytes d) (omega (arith, length_index d))

  -- whichever tree bits are 1
  pub index_of_data : IndexFollows xs n
  unfolding IndexFollows
  index_of_data e h = index_is e h ∙ ap index_bytes (sym (data_is e h))

pub index_follows : (xs : List ℕ) (n : ℕ) (held : ℕ → Bool) → part xs 32 (3328 * entry_count n) ≡ entries_of held n → IndexFollows xs n
unfolding entries_for
index_follows xs n held cut = index_of_data xs n held (filled n) cut

-- ---- a register that belongs to chunks, held or released

module _ (F : List ℕ → List ℕ) (ss : List Slot) (r : Register) (b : Belongs F r ss) where
  pub search_held : (from : ℕ) → first_missing r.bitfield r.n from ≡ lowest (held_in ss) from (length ss - from)
  search_held from =
      search_follows r.bitfield r.n (index_follows r.bitfield r.n (held_in ss) (bits_cut F ss r b).1) from
      ∙ lowest_agree (stored_held r.bitfield) (held_in ss) from (r.n - from) (λ j p q before. stored_held_lem F ss r b j (omega arith))
      ∙ ap (λ (m : ℕ). lowest (held_in ss) from (m - from)) b.count

pub search_answers : SearchAnswersForAll
search_answers F ss r b e from = sym (search_by r from done (sym e)) ∙ ap answer (search_held F ss r b from)
