-- The walk over the ranges passes what is well_formed. Assumes nothing.
use Rattle.std.specs.Prelude.{Ok}
use Prim.Native.Nat.{ℕ, zero, suc, ◌+◌, ◌-◌, ◌≤◌, ◌<◌, max}
use native.Mathlib.Omega.{arith}
use native.Mathlib.Decide.{ℕ_discrete}
use native.Mathlib.Nat.{zero-add}
use mathlib.Core.Path.{◌≡◌, refl, sym, ap, ap₂, ◌∙◌, subst}
use mathlib.Core.Bool.{true}
use mathlib.Core.List.{List, [], ◌∷◌, ◌++◌, append-nil, Memᴰ}
use lib.ListN.{length, get_or, length-append}
use lib.Dec.{leb, ltb}
use borrow.Author.Tests.{le-leb, lt-ltb}
use Rattle.byte_strings.specs.Lists.{part}
use Rattle.byte_strings.specs.Lowest.{Lowest, nowhere, lowest}
use Rattle.byte_strings.proofs.Lists.{length_part, part_part, part_at}
use Rattle.byte_strings.proofs.Bools.{both_true, true_both}
use Rattle.byte_strings.proofs.Lowest.{right_nowhere}
use Rattle.journal.specs.Ranges.{Range, stop, Placed, ranges_of}
use Rattle.journal.specs.Form.{length_of, size_of, encode, encode_all, FilesRise}
use Rattle.journal.specs.Places.{old_at, new_at, file_at, kind_at, start_at, size_at, behind, range_at}
use Rattle.journal.specs.Reading.{Said, numbers_right, reach_of, follows, stop_at, covered_by, is_full, gap_says, walk}
use Rattle.journal.proofs.Behind.{behind_least, whole_end}
use Rattle.journal.proofs.Steps.{walk_end, walk_on, reach_same, reach_other}
use Rattle.theorem_journal_exact.proofs.Test.{sound_from}
use Rattle.theorem_journal_exact.proofs.Test as Test
use Rattle.theorem_journal_exact.proofs.Read.{Says, whole_says}
use Rattle.theorem_journal_exact.proofs.Walk.{none_of, of_it, of_others, none_ranges, end_sound, sound_end, covered_long, covered_here, covered_other}
use Rattle.theorem_journal_exact.proofs.Made.{Encodable, Stands, stands}

no_gap : (s : Said) (l : Lowest) → l ≡ nowhere → gap_says l s ≡ s
unfolding gap_says
no_gap s l e = ap (λ (x : Lowest). gap_says x s) e

is_full_lem : (j covered : List ℕ) (i : ℕ) → leb (length_of (new_at j i)) (get_or covered i 0) ≡ true → is_full j covered i ≡ true
unfolding is_full
is_full_lem j covered i e = e

-- the two parts of the test of one range more
sound_first : (old new a p : ℕ) (r : Range) (rs : List Range) → sound_from old new a p (r ∷ rs) ≡ true → Test.range_right old new a p r ≡ true
unfolding sound_from
sound_first old new a p r rs e = (both_true (Test.range_right old new a p r) _ e).0

sound_rest : (old new a p : ℕ) (r : Range) (rs : List Range) → sound_from old new a p (r ∷ rs) ≡ true → sound_from old new (stop r) (max p (stop r)) rs ≡ true
unfolding sound_from
sound_rest old new a p r rs e = (both_true (Test.range_right old new a p r) _ e).1

pub one_encoded : (p : Placed) (ps : List Placed) → encode_all (p ∷ ps) ≡ encode p ++ encode_all ps
unfolding encode_all
one_encoded p ps = refl

pub none_long : length (encode_all []) ≡ 0
unfolding encode_all
none_long = refl

-- what is behind the first of two parts
pub behind_part : (j xs ys : List ℕ) (q n : ℕ) → q + n ≤ length j → part j q n ≡ xs ++ ys → part j (q + length xs) (n - length xs) ≡ ys
behind_part j xs ys q n l h =
    let x : length (part j q n) ≡ n = length_part j q n l in
    let y : length (part j q n) ≡ length xs + length ys = ap length h ∙ length-append xs ys in
    sym (part_part j q n (length xs) (n - length xs) (omega arith)) ∙ ap (λ (z : List ℕ). part z (length xs) (n - length xs)) h
    ∙ ap (λ (z : List ℕ). part (xs ++ z) (length xs) (n - length xs)) (sym (append-nil ys)) ∙ part_at xs ys [] (length xs) (n - length xs) refl (omega arith)

follows_true : (j : List ℕ) (last reach : ℕ) (covered : List ℕ) (q : ℕ) → file_at j q < 10 → last ≤ file_at j q → 1 ≤ size_at j q
    → numbers_right (kind_at j q) (start_at j q) (size_at j q) (length_of (old_at j (file_at j q))) (length_of (new_at j (file_at j q))) (reach_of (file_at j q) last reach)
    (get_or covered (file_at j q) 0) ≡ true
    → follows j last reach covered q ≡ true
unfolding follows
follows_true j last reach covered q a b c d =
    true_both (ltb (file_at j q) 10) _ (lt-ltb (file_at j q) 10 a) (true_both (leb last (file_at j q)) _ (le-leb last (file_at j q) b) (true_both (leb 1 (size_at j q)) _ (le-leb 1 (size_at j q) c) d))

-- ranges that are right behind those before
pub record Right (j : List ℕ) (last reach : ℕ) (covered : List ℕ) (ps : List Placed) : Type 0 where
  pub rise : FilesRise last ps
  pub each : (p : Placed) → Memᴰ p ps → Encodable p.range × (1 ≤ size_of p.range)
  pub sound : (i : ℕ) → i < 10 → sound_from (length_of (old_at j i)) (length_of (new_at j i)) (reach_of i last reach) (get_or covered i 0) (ranges_of i ps) ≡ true

module _ (j : List ℕ) (m : ℕ) (ml : m ≤ length j) where
  module _ (last reach : ℕ) (covered : List ℕ) (q : ℕ) (p : Placed) (ps : List Placed) (c : length covered ≡ 10) (r : Right j last reach covered (p ∷ ps)) (s : Stands j m q p) where
    told : Says j (kind_at j q) (start_at j q) (size_at j q) (q + 18) (range_at j q)
    told = whole_says j m q ml s.is_whole

    stops : stop p.range ≡ stop_at j q
    stops = sym (ap stop s.range) ∙ told.ends

    here : (i : ℕ) → i < 10 → p.file ≡ i → sound_from (length_of (old_at j i)) (length_of (new_at j i)) (reach_of i last reach) (get_or covered i 0) (p.range ∷ ranges_of i ps) ≡ true
    here i h e = ap (sound_from (length_of (old_at j i)) (length_of (new_at j i)) (reach_of i last reach) (get_or covered i 0)) (sym (of_it i p ps e)) ∙ r.sound i h

    goes_on : follows j last reach covered q ≡ true
    goes_on =
        let e = s.file in
        let l = r.rise.0 in
        let h = r.rise.1 in
        let z = s.size in
        let o = (r.each p (Memᴰ.head refl)).1 in
        follows_true j last reach covered q (omega arith) (omega arith) (omega arith)
        (subst
        (λ (i : ℕ). numbers_right (kind_at j q) (start_at j q) (size_at j q) (length_of (old_at j i)) (length_of (new_at j i)) (reach_of i last reach) (get_or covered i 0) ≡ true)
        (sym e)
        (sym (told.right (length_of (old_at j p.file)) (length_of (new_at j p.file)) (reach_of p.file last reach) (get_or covered p.file 0))
        ∙ ap (Test.range_right (length_of (old_at j p.file)) (length_of (new_at j p.file)) (reach_of p.file last reach) (get_or covered p.file 0)) s.range
        ∙ sound_first (length_of (old_at j p.file)) (length_of (new_at j p.file)) (reach_of p.file last reach) (get_or covered p.file 0) p.range (ranges_of p.file ps)
        (here p.file h refl)))

    same_file : (i : ℕ) → i < 10 → file_at j q ≡ i → sound_from (length_of (old_at j i)) (length_of (new_at j i)) (reach_of i (file_at j q) (stop_at j q)) (get_or (covered_by j covered q) i 0)
        (ranges_of i ps) ≡ true
    same_file i h e =
        let d : p.file ≡ i = sym s.file ∙ e in
        ap₂ (λ (a b : ℕ). sound_from (length_of (old_at j i)) (length_of (new_at j i)) a b (ranges_of i ps))
        (sym (reach_same i (file_at j q) (stop_at j q) (sym e)) ∙ sym stops)
        (covered_here j covered q i e (omega arith) ∙ ap (max (get_or covered i 0)) (sym stops))
        ∙ sound_rest (length_of (old_at j i)) (length_of (new_at j i)) (reach_of i last reach) (get_or covered i 0) p.range (ranges_of i ps) (here i h d)

    other_file : (i : ℕ) → i < 10 → (file_at j q ≡ i → ⊥) → sound_from (length_of (old_at j i)) (length_of (new_at j i)) (reach_of i (file_at j q) (stop_at j q))
        (get_or (covered_by j covered q) i 0) (ranges_of i ps) ≡ true
    other_file i h n =
        ap₂ (λ (a b : ℕ). sound_from (length_of (old_at j i)) (length_of (new_at j i)) a b (ranges_of i ps)) (sym (reach_other i (file_at j q) (stop_at j q) (λ e. n (sym e))))
        (covered_other j covered q i n)
        ∙ go (ℕ_discrete i last)
      where
        d : p.file ≡ i → ⊥
        d e = n (s.file ∙ e)

        y : sound_from (length_of (old_at j i)) (length_of (new_at j i)) (reach_of i last reach) (get_or covered i 0) (ranges_of i ps) ≡ true
        y = ap (sound_from (length_of (old_at j i)) (length_of (new_at j i)) (reach_of i last reach) (get_or covered i 0)) (sym (of_others i p ps d)) ∙ r.sound i h

        go : Dec (i ≡ last) → sound_from (length_of (old_at j i)) (length_of (new_at j i)) 0 (get_or covered i 0) (ranges_of i ps) ≡ true
        go (no l) = ap (λ (a : ℕ). sound_from (length_of (old_at j i)) (length_of (new_at j i)) a (get_or covered i 0) (ranges_of i ps)) (reach_other i last reach l) ∙ y
        go (yes l) =
            let g = r.rise.0 in
            let k : ranges_of i ps ≡ [] = none_of i p.file ps r.rise.2 (omega (arith, d)) in
            ap (sound_from (length_of (old_at j i)) (length_of (new_at j i)) 0 (get_or covered i 0)) k
            ∙ end_sound (length_of (old_at j i)) (length_of (new_at j i)) 0 (get_or covered i 0) (omega arith)
            (sound_end (length_of (old_at j i)) (length_of (new_at j i)) (reach_of i last reach) (get_or covered i 0)
            (ap (sound_from (length_of (old_at j i)) (length_of (new_at j i)) (reach_of i last reach) (get_or covered i 0)) (sym k) ∙ y))

    next_right : Right j (file_at j q) (stop_at j q) (covered_by j covered q) ps
    next_right =
        record {
          rise = subst (λ (f : ℕ). FilesRise f ps) (sym s.file) r.rise.2;
          each = λ z k. r.each z (Memᴰ.tail k);
          sound = λ i h. by_file i h (ℕ_discrete (file_at j q) i);
        }
      where
        by_file : (i : ℕ) → i < 10 → Dec (file_at j q ≡ i) → sound_from (length_of (old_at j i)) (length_of (new_at j i)) (reach_of i (file_at j q) (stop_at j q))
            (get_or (covered_by j covered q) i 0) (ranges_of i ps) ≡ true
        by_file i h (yes e) = same_file i h e
        by_file i h (no n) = other_file i h n

  pub passes : (ps : List Placed) (k last reach : ℕ) (covered : List ℕ) (q : ℕ) → length covered ≡ 10 → q ≤ m → m < k + q → part j q (m - q) ≡ encode_all ps → Right j last reach covered ps
      → walk j m k last reach covered q ≡ Ok m
  passes ps zero last reach covered q c g l h r = absurd (omega arith)
  passes [] (suc k) last reach covered q c g l h r =
      let x : length (part j q (m - q)) ≡ m - q = length_part j q (m - q) (omega arith) in
      let y : length (part j q (m - q)) ≡ 0 = ap length h ∙ none_long in
      walk_end j m k last reach covered q (omega arith)
      ∙ no_gap (Ok m) (lowest (is_full j covered) 0 10)
      (right_nowhere (is_full j covered) 0 10
      (λ i o.
      ap (is_full j covered) (zero-add i)
      ∙ is_full_lem j covered i
      (sound_end (length_of (old_at j i)) (length_of (new_at j i)) (reach_of i last reach) (get_or covered i 0)
      (ap (sound_from (length_of (old_at j i)) (length_of (new_at j i)) (reach_of i last reach) (get_or covered i 0)) (sym (none_ranges i)) ∙ r.sound i o))))
  passes (p ∷ ps) (suc k) last reach covered q c g l h r =
      let e : part j q (m - q) ≡ encode p ++ encode_all ps = h ∙ one_encoded p ps in
      let s : Stands j m q p = stands j m q g ml p (r.each p (Memᴰ.head refl)).0 (encode_all ps) e in
      let b = behind_least j q in
      let w = whole_end j m q s.is_whole in
      let z = s.ends in
      let d : m - behind j q ≡ m - q - length (encode p) = omega arith in
      walk_on j m k last reach covered q (omega arith) s.is_whole (goes_on last reach covered q p ps c r s)
      ∙ passes ps k (file_at j q) (stop_at j q) (covered_by j covered q) (behind j q) (covered_long j covered q ∙ c) w (omega arith)
      (ap₂ (part j) z d ∙ behind_part j (encode p) (encode_all ps) q (m - q) (omega arith) e) (next_right last reach covered q p ps c r s)
