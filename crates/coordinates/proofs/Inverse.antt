-- Each of the two definitions undoes the other, and so do the calls. Assumes nothing.
use Rattle.std.proofs.Common.{◌≡◌, ℕ, zero, suc, ◌+◌, ◌-◌, ◌*◌, ◌/◌, ◌%◌, ◌^◌, ◌<◌, List, ◌++◌, length}
use Rattle.std.proofs.Common.{get_or, take, drop, sym, ap, ◌∙◌, subst, ap₂, mul_comm, zero-add, arith, length-append, length-drop, take-append-drop, drop_at}
use lib.Arith.{digits_lt}
use lib.ListN.{get_or-append}
use Rattle.byte_strings.specs.Lists.{Bytes, part, run, joined}
use Rattle.byte_strings.specs.Numbers.{be, number}
use Rattle.byte_strings.proofs.Lists.{length_part, get_d_part, part_left, length_run, get_or_run, run_ext, run_get_or, part_joined, parts_joined, bytes_append}
use Rattle.byte_strings.proofs.Lists.{bytes_drop, bytes_part, bytes_run, bytes_joined}
use Rattle.byte_strings.proofs.Numbers.{length_be, bytes_be, number_be, be_number}
use Rattle.coordinates.specs.Grouping.{count, word, words, difference, plane, planes, remaining, grouped, gathered, restored, ungrouped}
use Rattle.coordinates.specs.Theorems.{EachUndoesTheOther}
use Rattle.coordinates.proofs.Words.{words_inside, all_inside, length_words, word_lt, gathered_lt, difference_lt, restored_lt}
use Rattle.coordinates.proofs.Planes.{length_plane, length_planes, planes_joined}
use Rattle.coordinates.proofs.Calls.{calls_undo}

-- ---- other words before the same remaining bytes

module _ (d xs : List ℕ) (e : length xs ≡ 4 * count d) where
  long_with : length (xs ++ remaining d) ≡ length d
  unfolding remaining count
  long_with = length-append xs (drop (4 * count d) d) ∙ omega (arith, length-drop (4 * count d) d)

  count_with : count (xs ++ remaining d) ≡ count d
  unfolding count
  count_with = ap (λ (n : ℕ). n / 4) long_with

  remaining_with : remaining (xs ++ remaining d) ≡ remaining d
  unfolding remaining
  remaining_with = ap (λ (n : ℕ). drop (4 * n) (xs ++ drop (4 * count d) d)) count_with ∙ drop_at xs (drop (4 * count d) d) (4 * count d) e

whole : (d : List ℕ) → take (4 * count d) d ++ remaining d ≡ d
unfolding remaining
whole d = take-append-drop (4 * count d) d

-- ---- the planes

plane_at : (w : ℕ → ℕ) (n k i : ℕ) → k < 4 → i < n → get_or (planes w n) (k * n + i) 0 ≡ get_or (be 4 (w i)) k 0
unfolding planes plane
plane_at w n k i a b =
    sym (get_d_part (joined (run (plane w n) 0 4)) (k * n) n i 0 b)
    ∙ ap (λ (xs : List ℕ). get_or xs i 0) (part_joined (plane w n) n (length_plane w n) 0 4 k a ∙ ap (plane w n) (zero-add k))
    ∙ get_or_run (λ j. get_or (be 4 (w j)) k 0) 0 n i 0 b ∙ ap (λ (j : ℕ). get_or (be 4 (w j)) k 0) (zero-add i)

-- ---- the words

word_at : (w : ℕ → ℕ) (n i : ℕ) → i < n → part (words w n) (4 * i) 4 ≡ be 4 (w i)
unfolding words
word_at w n i h =
    ap (λ (x : ℕ). part (joined (run (λ j. be 4 (w j)) 0 n)) x 4) (mul_comm 4 i)
    ∙ part_joined (λ j. be 4 (w j)) 4 (λ j. length_be 4 (w j)) 0 n i h ∙ ap (λ (j : ℕ). be 4 (w j)) (zero-add i)

words_ext : (w v : ℕ → ℕ) (n : ℕ) → ((i : ℕ) → i < n → w i ≡ v i) → words w n ≡ words v n
unfolding words
words_ext w v n h = ap joined (run_ext (λ i. be 4 (w i)) (λ i. be 4 (v i)) 0 n (λ i _ l. ap (be 4) (h i (omega arith))))

words_joined : (d : List ℕ) → Bytes d → words (word d) (count d) ≡ take (4 * count d) d
unfolding words word part
words_joined d p =
    ap joined (run_ext (λ i. be 4 (word d i)) (λ i. part d (0 + 4 * i) 4) 0 (count d) (λ i _ h.
    be_number 4 (part d (4 * i) 4) (bytes_part d (4 * i) 4 p) (length_part d (4 * i) 4 (words_inside d i (omega arith)))
    ∙ ap (λ (x : ℕ). part d x 4) (sym (zero-add (4 * i)))))
    ∙ parts_joined d 0 4 (count d)

-- ---- what was grouped, ungrouped

module _ (d : List ℕ) (p : Bytes d) where
  count_grouped : count (grouped d) ≡ count d
  unfolding grouped
  count_grouped = count_with d (planes (difference d) (count d)) (length_planes (difference d) (count d))

  remaining_grouped : remaining (grouped d) ≡ remaining d
  unfolding grouped
  remaining_grouped = remaining_with d (planes (difference d) (count d)) (length_planes (difference d) (count d))

  byte_grouped : (k i : ℕ) → k < 4 → i < count d → get_or (grouped d) (k * count d + i) 0 ≡ get_or (be 4 (difference d i)) k 0
  unfolding grouped
  byte_grouped k i a b =
      get_or-append (planes (difference d) (count d)) (remaining d) 0 (k * count d + i)
      (subst (λ (n : ℕ). k * count d + i < n) (sym (length_planes (difference d) (count d))) (digits_lt a b))
      ∙ plane_at (difference d) (count d) k i a b

  gathered_grouped : (i : ℕ) → i < count d → gathered (grouped d) i ≡ difference d i
  unfolding gathered
  gathered_grouped i h =
      ap (λ (n : ℕ). number (run (λ k. get_or (grouped d) (k * n + i) 0) 0 4)) count_grouped
      ∙ ap number (run_ext (λ k. get_or (grouped d) (k * count d + i) 0) (λ k. get_or (be 4 (difference d i)) k 0) 0 4 (λ k _ b. byte_grouped k i (omega arith) h)
      ∙ run_get_or (be 4 (difference d i)) 4 0 (length_be 4 (difference d i)))
      ∙ number_be 4 (difference d i) (difference_lt d i p h)

  restored_grouped : (i : ℕ) → i < count d → restored (grouped d) i ≡ word d i
  unfolding restored difference
  restored_grouped zero h = gathered_grouped zero h
  restored_grouped (suc i) h =
      let a : restored (grouped d) i ≡ word d i = restored_grouped i (omega arith) in
      let b : gathered (grouped d) (suc i) ≡ (word d (suc i) + 2 ^ 32 - word d i) % 2 ^ 32 = gathered_grouped (suc i) h in
      let x : word d i < 2 ^ 32 = word_lt d i p (omega arith) in
      let y : word d (suc i) < 2 ^ 32 = word_lt d (suc i) p h in
      omega arith

  pub ungrouped_grouped : ungrouped (grouped d) ≡ d
  unfolding ungrouped
  ungrouped_grouped =
      ap₂ ◌++◌
      (ap (words (restored (grouped d))) count_grouped ∙ words_ext (restored (grouped d)) (word d) (count d) restored_grouped ∙ words_joined d p)
      remaining_grouped
      ∙ whole d

-- ---- what was ungrouped, grouped

module _ (g : List ℕ) (p : Bytes g) where
  count_ungrouped : count (ungrouped g) ≡ count g
  unfolding ungrouped
  count_ungrouped = count_with g (words (restored g) (count g)) (length_words (restored g) (count g))

  remaining_ungrouped : remaining (ungrouped g) ≡ remaining g
  unfolding ungrouped
  remaining_ungrouped = remaining_with g (words (restored g) (count g)) (length_words (restored g) (count g))

  word_ungrouped : (i : ℕ) → i < count g → word (ungrouped g) i ≡ restored g i
  unfolding word ungrouped
  word_ungrouped i h =
      ap number (part_left (words (restored g) (count g)) (remaining g) (4 * i) 4 (omega (arith, length_words (restored g) (count g)))
      ∙ word_at (restored g) (count g) i h)
      ∙ number_be 4 (restored g i) (restored_lt g i p)

  difference_ungrouped : (i : ℕ) → i < count g → difference (ungrouped g) i ≡ gathered g i
  unfolding difference restored
  difference_ungrouped zero h = word_ungrouped zero h
  difference_ungrouped (suc i) h =
      let a : word (ungrouped g) i ≡ restored g i = word_ungrouped i (omega arith) in
      let b : word (ungrouped g) (suc i) ≡ (restored g i + gathered g (suc i)) % 2 ^ 32 = word_ungrouped (suc i) h in
      let x : restored g i < 2 ^ 32 = restored_lt g i p in
      let y : gathered g (suc i) < 2 ^ 32 = gathered_lt g (suc i) p in
      omega arith

  byte_ungrouped : (k i : ℕ) → k < 4 → i < count g → get_or g (k * count g + i) 0 ≡ get_or (be 4 (difference (ungrouped g) i)) k 0
  unfolding gathered
  byte_ungrouped k i a b =
      let f : ℕ → ℕ = λ j. get_or g (j * count g + i) 0 in
      sym (ap (λ (xs : List ℕ). get_or xs k 0)
      (ap (be 4) (difference_ungrouped i b) ∙ be_number 4 (run f 0 4) (bytes_run f 0 4 (λ j. p (j * count g + i))) (length_run f 0 4))
      ∙ get_or_run f 0 4 k 0 a ∙ ap f (zero-add k))

  planes_ungrouped : planes (difference (ungrouped g)) (count g) ≡ take (4 * count g) g
  unfolding planes plane
  planes_ungrouped = planes_joined (λ k i. get_or (be 4 (difference (ungrouped g) i)) k 0) (count g) g (all_inside g) byte_ungrouped

  pub grouped_ungrouped : grouped (ungrouped g) ≡ g
  unfolding grouped
  grouped_ungrouped = ap₂ ◌++◌ (ap (planes (difference (ungrouped g))) count_ungrouped ∙ planes_ungrouped) remaining_ungrouped ∙ whole g

-- ---- the claim

grouped_long : (d : List ℕ) → length (grouped d) ≡ length d
unfolding grouped
grouped_long d = long_with d (planes (difference d) (count d)) (length_planes (difference d) (count d))

ungrouped_long : (g : List ℕ) → length (ungrouped g) ≡ length g
unfolding ungrouped
ungrouped_long g = long_with g (words (restored g) (count g)) (length_words (restored g) (count g))

grouped_bytes : (d : List ℕ) → Bytes d → Bytes (grouped d)
unfolding grouped planes plane remaining
grouped_bytes d p =
    bytes_append (planes (difference d) (count d)) (remaining d)
    (bytes_joined (plane (difference d) (count d)) 0 4 (λ k. bytes_run (λ i. get_or (be 4 (difference d i)) k 0) 0 (count d) (λ i. bytes_be 4 (difference d i) k)))
    (bytes_drop (4 * count d) d p)

ungrouped_bytes : (g : List ℕ) → Bytes g → Bytes (ungrouped g)
unfolding ungrouped words remaining
ungrouped_bytes g p =
    bytes_append (words (restored g) (count g)) (remaining g)
    (bytes_joined (λ i. be 4 (restored g i)) 0 (count g) (λ i. bytes_be 4 (restored g i)))
    (bytes_drop (4 * count g) g p)

pub each_undoes_the_other : EachUndoesTheOther
each_undoes_the_other = record {
  grouping = record {
    long = grouped_long;
    bytes = grouped_bytes;
    undone = ungrouped_grouped;
    calls = calls_undo grouped ungrouped grouped_long ungrouped_grouped;
  };
  ungrouping = record {
    long = ungrouped_long;
    bytes = ungrouped_bytes;
    undone = grouped_ungrouped;
    calls = calls_undo ungrouped grouped ungrouped_long grouped_ungrouped;
  };
}
