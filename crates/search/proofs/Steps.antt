-- The steps of the search, over plain values. Assumes nothing.
use Prim.Native.Nat.{ℕ, zero, suc, ◌+◌, ◌-◌, ◌*◌, ◌/◌, ◌%◌, ◌^◌, ◌≤◌, ◌<◌}
use mathlib.Core.Path.{◌≡◌, refl, sym, ap, ◌∙◌}
use mathlib.Core.Bool.{Bool, true, ◌||◌}
use mathlib.Core.List.{List}
use native.Mathlib.Nat.{div-one}
use native.Mathlib.Omega.{arith}
use lib.ListN.{length, get_or}
use borrow.Author.Tests.{eq-eqb, ne_eqb}
use Rattle.number_types.specs.declared.ChunkNumber.{ChunkNumber}
use Rattle.byte_strings.specs.Lowest.{nowhere, lowest}
use Rattle.byte_strings.proofs.Lowest.{lowest_agree}
use Rattle.bitfield.specs.Image.{entry_count}
use Rattle.bitfield.specs.Append.{bits_place}
use Rattle.bitfield.specs.Release.{stored_held}
use Rattle.bitfield.specs.Missing.{found_at}
use Rattle.std.specs.Prelude.{Option, Some, None, Ok}
use Rattle.file_format.specs.Sizes.{most_chunks, used_bitfield}
use Rattle.search.specs.Meaning.{searched_of}
use Rattle.search.specs.Search.{answer, tuples_place, stored_tuples, tuple_in, stored_tuple, passed_over, not_missing}
use Rattle.search.specs.Inner.{DataIn, InGroup, InRun}
use Rattle.search.proofs.Cut.{cut_found, cut_none, lowest_none}

-- ---- the file

pub data_in : (xs : List ℕ) (n : ℕ) → used_bitfield n ≤ length xs → DataIn xs n
unfolding used_bitfield bits_place
data_in xs n h = h

pub data_at : (xs : List ℕ) (end j : ℕ) → DataIn xs end → j < end → bits_place (j / 8192 + 1) ≤ length xs
unfolding bits_place entry_count
data_at xs end j p h = omega arith

pub data_below : (xs : List ℕ) (end m : ℕ) → DataIn xs end → m ≤ end → DataIn xs m
unfolding bits_place entry_count
data_below xs end m p h = omega arith

-- where the Index byte of a run lies
pub tuples_at : (h : ℕ) → 32 + 3328 * (h / 128) + 3072 + 2 * (h % 128) ≡ tuples_place h
unfolding bits_place
tuples_at h = refl

pub tuples_in : (xs : List ℕ) (k at : ℕ) → at ≡ tuples_place (k / 64) → bits_place (k / 8192 + 1) ≤ length xs → at < length xs
unfolding bits_place
tuples_in xs k at e h = omega arith

pub tuples_read : (xs : List ℕ) (h at : ℕ) → at ≡ tuples_place h → get_or xs at 0 ≡ stored_tuples xs h
unfolding stored_tuples
tuples_read xs h at e = ap (λ (p : ℕ). get_or xs p 0) e

-- ---- tuples

pub tuple_at : (byte g t : ℕ) → g % 4 ≡ t → byte / 4 ^ (3 - t) % 4 ≡ tuple_in byte g
unfolding tuple_in
tuple_at byte g t e = ap (λ (x : ℕ). byte / 4 ^ (3 - x) % 4) (sym e)

tuple_last : (byte g : ℕ) → g % 4 ≡ 3 → byte % 4 ≡ tuple_in byte g
tuple_last byte g e = ap (λ (x : ℕ). x % 4) (sym (div-one byte)) ∙ tuple_at byte g 3 e

pub tuple_rest : (byte g : ℕ) → (g % 4 ≡ 0 → ⊥) → (g % 4 ≡ 1 → ⊥) → (g % 4 ≡ 2 → ⊥) → byte % 4 ≡ tuple_in byte g
tuple_rest byte g a b c = tuple_last byte g (omega arith)

-- all four tuples of 255 are 11
ones : (t : ℕ) → t < 4 → 255 / 4 ^ (3 - t) % 4 ≡ 3
ones zero h = refl
ones (suc zero) h = refl
ones (suc (suc zero)) h = refl
ones (suc (suc (suc zero))) h = refl
ones (suc (suc (suc (suc t)))) h = absurd (omega arith)

all_ones : (g : ℕ) → tuple_in 255 g ≡ 3
unfolding tuple_in
all_ones g = ones (g % 4) (omega arith)

-- ---- one part of a search behind another

module _ (f : ℕ → Bool) (m : Option ChunkNumber) (from k next end : ℕ) (up : k < next) (to : next ≤ end) (e : found_at m ≡ lowest f k (next - k))
    (so_far : lowest f from (end - from) ≡ lowest f k (end - k)) where
  pub found_here : (c : ChunkNumber) → m ≡ Some c → found_at m ≡ lowest f from (end - from)
  found_here c g = ap found_at g ∙ cut_found f k next end (omega arith) to c.0 (sym (ap found_at g) ∙ e) ∙ sym so_far

  pub none_here : m ≡ None → lowest f from (end - from) ≡ lowest f next (end - next)
  none_here g = so_far ∙ cut_none f k next end (omega arith) to (sym (ap found_at g) ∙ e)

-- ---- what is not missing

module _ (xs : List ℕ) where
  over : (k : ℕ) → stored_tuple xs (k / 16) ≡ 3 → not_missing xs k ≡ true
  unfolding not_missing passed_over
  over k e = ap (λ (b : Bool). b || stored_held xs k) (eq-eqb (stored_tuple xs (k / 16)) 3 e)

  read : (k : ℕ) → (stored_tuple xs (k / 16) ≡ 3 → ⊥) → stored_held xs k ≡ not_missing xs k
  unfolding not_missing passed_over
  read k d = ap (λ (b : Bool). b || stored_held xs k) (sym (ne_eqb (stored_tuple xs (k / 16)) 3 d))

  module _ (tuple from end : ℕ) (w : InGroup xs tuple from end) where
    -- the chunks between have the group's tuple
    same_tuple : (j : ℕ) → from ≤ j → j < from + (end - from) → stored_tuple xs (j / 16) ≡ tuple
    same_tuple j p q =
        let e : j / 16 ≡ from / 16 = omega (arith, w.same) in
        ap (stored_tuple xs) e ∙ sym w.is

    pub group_over : tuple ≡ 3 → nowhere ≡ lowest (not_missing xs) from (end - from)
    group_over e = sym (lowest_none (not_missing xs) from (end - from) (λ j p q. over j (same_tuple j p q ∙ e)))

    pub group_read : (tuple ≡ 3 → ⊥) → lowest (stored_held xs) from (end - from) ≡ lowest (not_missing xs) from (end - from)
    group_read d =
        lowest_agree (stored_held xs) (not_missing xs) from (end - from) (λ j p q before. read j (λ e. d (sym (same_tuple j p q) ∙ e)))

  module _ (tuples from end : ℕ) (w : InRun xs tuples from end) where
    tuple_of : (j : ℕ) → from ≤ j → j < end → tuple_in tuples (j / 16) ≡ stored_tuple xs (j / 16)
    unfolding stored_tuple
    tuple_of j p q =
        let e : from / 64 ≡ j / 16 / 4 = omega (arith, w.same) in
        ap (λ (b : ℕ). tuple_in b (j / 16)) (w.is ∙ ap (stored_tuples xs) e)

    pub run_over : tuples ≡ 255 → nowhere ≡ lowest (not_missing xs) from (end - from)
    run_over e =
        sym (lowest_none (not_missing xs) from (end - from)
        (λ j p q. over j (sym (tuple_of j p (omega arith)) ∙ ap (λ (b : ℕ). tuple_in b (j / 16)) e ∙ all_ones (j / 16))))

    -- a group of the run, from one of its chunks on
    pub group_in : (k next tuple : ℕ) → from ≤ k → k < end → next ≤ (k / 16 + 1) * 16 → next ≤ end → tuple ≡ tuple_in tuples (k / 16) → InGroup xs tuple k next
    group_in k next tuple p q a b e = record { room = data_below xs end next w.room b; same = a; is = e ∙ tuple_of k p q }

  -- a run, from one of its chunks on
  pub run_in : (n k next : ℕ) → n ≤ most_chunks → DataIn xs n → next ≤ (k / 64 + 1) * 64 → next ≤ n → InRun xs (stored_tuples xs (k / 64)) k next
  run_in n k next few p a b = record { room = data_below xs n next p b; few = omega arith; same = a; is = refl }

-- what a search that is not refused answers, by what it finds
pub answered : (m : Option ChunkNumber) → searched_of (Ok m) ≡ answer (found_at m)
answered (Some c) = refl
answered None = refl
