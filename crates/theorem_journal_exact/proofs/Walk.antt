-- What the walk over the ranges accepts. Assumes nothing.
use Rattle.std.specs.Prelude.{Err, is_ok}
use Prim.Native.Nat.{ℕ, zero, suc, ◌+◌, ◌-◌, ◌*◌, ◌≤◌, ◌<◌, max}
use native.Mathlib.Omega.{arith}
use native.Mathlib.Decide.{ℕ_discrete}
use native.Mathlib.Nat.{zero-add}
use mathlib.Core.Path.{◌≡◌, refl, sym, ap, ap₂, ◌∙◌, subst}
use mathlib.Core.Logic.{⊎_elim}
use mathlib.Core.Bool.{Bool, true, false}
use mathlib.Core.List.Memᴰ
use mathlib.Core.List.{List, [], ◌∷◌, ◌++◌, Memᴰ}
use lib.ListN.{length, get_or, set, length-set}
use lib.Seq.{get_or-set_same, get_or-set_other}
use lib.Dec.{leb, ltb}
use borrow.Author.Tests.{eq-eqb, ne_eqb, le-leb}
use Rattle.byte_strings.specs.Lists.{part, Bytes}
use Rattle.byte_strings.specs.Lowest.{Lowest, nowhere, first, lowest}
use Rattle.byte_strings.proofs.Lists.{part_add}
use Rattle.byte_strings.proofs.Bools.{both_true, true_both, not_both}
use Rattle.byte_strings.proofs.Lowest.{nowhere_right}
use Rattle.journal.specs.Ranges.{Range, stop, Placed, ranges_of}
use Rattle.journal.specs.Form.{length_of, size_of, encode_all, FilesRise}
use Rattle.journal.specs.Places.{old_at, new_at, file_at, kind_at, start_at, size_at, times_long, behind, whole, range_at}
use Rattle.journal.specs.Reading.{Said, numbers_right, reach_of, follows, stop_at, covered_by, is_full, gap_says, walk}
use Rattle.journal.specs.declared.JournalError.TheVariants.{Range as NoRange}
use Rattle.journal.proofs.Behind.{whole_end}
use Rattle.journal.proofs.Steps.{walk_end, walk_cut, walk_off, walk_on, follows_has, reach_same, reach_other}
use Rattle.theorem_journal_exact.proofs.Test.{sound_from}
use Rattle.theorem_journal_exact.proofs.Test as Test
use Rattle.theorem_journal_exact.proofs.Read.{Says, placed_at, whole_says, behind_long, encode_is}

pub lowest_none : (right : ℕ → Bool) (k : ℕ) → lowest right 0 k ≡ nowhere → (i : ℕ) → i < k → right i ≡ true
lowest_none right k e i h = ap right (sym (zero-add i)) ∙ nowhere_right right 0 k e i h

walk_none : (j : List ℕ) (m last reach : ℕ) (covered : List ℕ) (q : ℕ) → walk j m 0 last reach covered q ≡ Err (NoRange q)
unfolding walk
walk_none j m last reach covered q = refl

-- a gap is not done
gap_nowhere : (l : Lowest) (s : Said) → is_ok (gap_says l s) ≡ true → l ≡ nowhere
unfolding gap_says
gap_nowhere nowhere s e = refl
gap_nowhere (first i) s e = not_both e

-- ranges of files above i are none of the file i
pub none_of : (i f : ℕ) (ps : List Placed) → FilesRise f ps → i < f → ranges_of i ps ≡ []
unfolding ranges_of
none_of i f [] r h = refl
none_of i f (p ∷ ps) r h =
    let l = r.0 in
    ap (λ (b : Bool). elim b as (λ x. List Range) [ true ↦ p.range ∷ ranges_of i ps | false ↦ ranges_of i ps ]) (ne_eqb p.file i (omega arith))
    ∙ none_of i p.file ps r.2 (omega arith)

pub of_it : (i : ℕ) (p : Placed) (ps : List Placed) → p.file ≡ i → ranges_of i (p ∷ ps) ≡ p.range ∷ ranges_of i ps
unfolding ranges_of
of_it i p ps e = ap (λ (b : Bool). elim b as (λ x. List Range) [ true ↦ p.range ∷ ranges_of i ps | false ↦ ranges_of i ps ]) (eq-eqb p.file i e)

pub of_others : (i : ℕ) (p : Placed) (ps : List Placed) → (p.file ≡ i → ⊥) → ranges_of i (p ∷ ps) ≡ ranges_of i ps
unfolding ranges_of
of_others i p ps n = ap (λ (b : Bool). elim b as (λ x. List Range) [ true ↦ p.range ∷ ranges_of i ps | false ↦ ranges_of i ps ]) (ne_eqb p.file i n)

-- what is covered behind the range at q
module _ (j covered : List ℕ) (q : ℕ) where
  pub covered_long : length (covered_by j covered q) ≡ length covered
  unfolding covered_by
  covered_long = simp length-set

  pub covered_here : (i : ℕ) → file_at j q ≡ i → i < length covered → get_or (covered_by j covered q) i 0 ≡ max (get_or covered i 0) (stop_at j q)
  unfolding covered_by
  covered_here i e h =
      ap (λ (n : ℕ). get_or (set covered n (max (get_or covered n 0) (stop_at j q))) i 0) e ∙ get_or-set_same covered i (max (get_or covered i 0) (stop_at j q)) 0 h

  pub covered_other : (i : ℕ) → (file_at j q ≡ i → ⊥) → get_or (covered_by j covered q) i 0 ≡ get_or covered i 0
  unfolding covered_by
  covered_other i n = get_or-set_other covered (file_at j q) i (max (get_or covered (file_at j q) 0) (stop_at j q)) 0 (λ e. n (sym e))

-- the numbers of a range that follows are right
pub follows_numbers : (j : List ℕ) (last reach : ℕ) (covered : List ℕ) (q : ℕ) → follows j last reach covered q ≡ true
    → numbers_right (kind_at j q) (start_at j q) (size_at j q) (length_of (old_at j (file_at j q))) (length_of (new_at j (file_at j q))) (reach_of (file_at j q) last reach)
    (get_or covered (file_at j q) 0) ≡ true
unfolding follows
follows_numbers j last reach covered q e =
    let x = both_true (ltb (file_at j q) 10) _ e in
    let y = both_true (leb last (file_at j q)) _ x.1 in
    (both_true (leb 1 (size_at j q)) _ y.1).1

-- the test of no range, and of one more
pub end_sound : (old new a p : ℕ) → a ≤ new → leb new p ≡ true → sound_from old new a p [] ≡ true
unfolding sound_from
end_sound old new a p h e = true_both (leb a new) (leb new p) (le-leb a new h) e

pub sound_end : (old new a p : ℕ) → sound_from old new a p [] ≡ true → leb new p ≡ true
unfolding sound_from
sound_end old new a p e = (both_true (leb a new) (leb new p) e).1

more_sound : (old new a p : ℕ) (r : Range) (rs : List Range) → Test.range_right old new a p r ≡ true → sound_from old new (stop r) (max p (stop r)) rs ≡ true → sound_from old new a p (r ∷ rs) ≡ true
unfolding sound_from
more_sound old new a p r rs e d = true_both (Test.range_right old new a p r) _ e d

none_encoded : (j : List ℕ) (q : ℕ) → part j q 0 ≡ encode_all []
unfolding part encode_all
none_encoded j q = refl

pub none_ranges : (i : ℕ) → ranges_of i [] ≡ []
unfolding ranges_of
none_ranges i = refl

full_is : (j covered : List ℕ) (i : ℕ) → is_full j covered i ≡ true → leb (length_of (new_at j i)) (get_or covered i 0) ≡ true
unfolding is_full
full_is j covered i e = e

-- what the walk from q on has read: the ranges up to the end m, and that they are right behind those before
pub record Accepted (j : List ℕ) (m last reach : ℕ) (covered : List ℕ) (q : ℕ) : Type 0 where
  pub ps : List Placed
  pub encodes : part j q (m - q) ≡ encode_all ps
  pub rise : FilesRise last ps
  pub some : (p : Placed) → Memᴰ p ps → 1 ≤ size_of p.range
  pub sound : (i : ℕ) → i < 10 → sound_from (length_of (old_at j i)) (length_of (new_at j i)) (reach_of i last reach) (get_or covered i 0) (ranges_of i ps) ≡ true

module _ (j : List ℕ) (bytes : Bytes j) (m : ℕ) (ml : m ≤ length j) where
  within : (i last reach : ℕ) → reach ≤ length_of (new_at j last) → reach_of i last reach ≤ length_of (new_at j i)
  within i last reach h = go (ℕ_discrete i last)
    where
      go : Dec (i ≡ last) → reach_of i last reach ≤ length_of (new_at j i)
      go (yes e) =
          let x = reach_same i last reach e in
          let y : length_of (new_at j i) ≡ length_of (new_at j last) = ap (λ (n : ℕ). length_of (new_at j n)) e in
          omega arith
      go (no n) = let x = reach_other i last reach n in omega arith

  at_end : (last reach : ℕ) (covered : List ℕ) (q : ℕ) → q ≡ m → reach ≤ length_of (new_at j last) → ((i : ℕ) → i < 10 → is_full j covered i ≡ true) → Accepted j m last reach covered q
  at_end last reach covered q e h full =
      record {
        ps = [];
        encodes = let z : m - q ≡ 0 = omega arith in ap (part j q) z ∙ none_encoded j q;
        rise = tt;
        some = λ p k. absurd (Memᴰ.not-nil k);
        sound = λ i l.
            ap (sound_from (length_of (old_at j i)) (length_of (new_at j i)) (reach_of i last reach) (get_or covered i 0)) (none_ranges i)
            ∙ end_sound (length_of (old_at j i)) (length_of (new_at j i)) (reach_of i last reach) (get_or covered i 0) (within i last reach h) (full_is j covered i (full i l));
      }

  module _ (last reach : ℕ) (covered : List ℕ) (q : ℕ) (w : whole j m q ≡ true) (t : follows j last reach covered q ≡ true) (h : reach ≤ length_of (new_at j last)) (c : length covered ≡ 10)
      (x : Accepted j m (file_at j q) (stop_at j q) (covered_by j covered q) (behind j q)) where
    more_encodes : part j q (m - q) ≡ encode_all (placed_at j q ∷ x.ps)
    unfolding encode_all
    more_encodes =
        let l = behind_long j m q ml w in
        let g = whole_end j m q w in
        let d : m - q ≡ 18 + times_long (kind_at j q) * size_at j q + (m - behind j q) = omega arith in
        let e : q + (18 + times_long (kind_at j q) * size_at j q) ≡ behind j q = omega arith in
        ap (part j q) d ∙ part_add j q (18 + times_long (kind_at j q) * size_at j q) (m - behind j q)
        ∙ ap₂ (λ (u v : List ℕ). u ++ v) (encode_is j m q ml w bytes) (ap (λ (n : ℕ). part j n (m - behind j q)) e ∙ x.encodes)

    more_some : (p : Placed) → Memᴰ p (placed_at j q ∷ x.ps) → 1 ≤ size_of p.range
    more_some p k =
        let f = follows_has j last reach covered q t in
        let s = whole_says j m q ml w in
        ⊎_elim (λ e. subst (λ (z : Placed). 1 ≤ size_of z.range) (sym e) (subst (λ (n : ℕ). 1 ≤ n) (sym s.sizes) f.some)) (λ r. x.some p r) (Memᴰ.cases_cons k)

    -- the file of the range itself
    sound_here : (i : ℕ) → i < 10 → file_at j q ≡ i → sound_from (length_of (old_at j i)) (length_of (new_at j i)) (reach_of i last reach) (get_or covered i 0) (ranges_of i
        (placed_at j q ∷ x.ps)) ≡ true
    sound_here i l e =
        ap (sound_from (length_of (old_at j i)) (length_of (new_at j i)) (reach_of i last reach) (get_or covered i 0)) (of_it i (placed_at j q) x.ps e)
        ∙ more_sound (length_of (old_at j i)) (length_of (new_at j i)) (reach_of i last reach) (get_or covered i 0) (range_at j q) (ranges_of i x.ps)
        (s.right (length_of (old_at j i)) (length_of (new_at j i)) (reach_of i last reach) (get_or covered i 0) ∙ numbers)
        (ap₂ (λ (a p : ℕ). sound_from (length_of (old_at j i)) (length_of (new_at j i)) a p (ranges_of i x.ps)) reaches covers ∙ x.sound i l)
      where
        s : Says j (kind_at j q) (start_at j q) (size_at j q) (q + 18) (range_at j q)
        s = whole_says j m q ml w

        numbers : numbers_right (kind_at j q) (start_at j q) (size_at j q) (length_of (old_at j i)) (length_of (new_at j i)) (reach_of i last reach) (get_or covered i 0) ≡ true
        numbers =
            subst
            (λ (n : ℕ). numbers_right (kind_at j q) (start_at j q) (size_at j q) (length_of (old_at j n)) (length_of (new_at j n)) (reach_of n last reach) (get_or covered n 0) ≡ true)
            e (follows_numbers j last reach covered q t)

        reaches : stop (range_at j q) ≡ reach_of i (file_at j q) (stop_at j q)
        reaches = s.ends ∙ reach_same i (file_at j q) (stop_at j q) (sym e)

        covers : max (get_or covered i 0) (stop (range_at j q)) ≡ get_or (covered_by j covered q) i 0
        covers = ap (max (get_or covered i 0)) s.ends ∙ sym (covered_here j covered q i e (omega arith))

    -- another file
    sound_other : (i : ℕ) → i < 10 → (file_at j q ≡ i → ⊥) → sound_from (length_of (old_at j i)) (length_of (new_at j i)) (reach_of i last reach) (get_or covered i 0) (ranges_of i
        (placed_at j q ∷ x.ps)) ≡ true
    sound_other i l n =
        ap (sound_from (length_of (old_at j i)) (length_of (new_at j i)) (reach_of i last reach) (get_or covered i 0)) (of_others i (placed_at j q) x.ps n) ∙ go (ℕ_discrete i last)
      where
        behind_it : sound_from (length_of (old_at j i)) (length_of (new_at j i)) 0 (get_or covered i 0) (ranges_of i x.ps) ≡ true
        behind_it =
            ap₂ (λ (a p : ℕ). sound_from (length_of (old_at j i)) (length_of (new_at j i)) a p (ranges_of i x.ps))
            (reach_other i (file_at j q) (stop_at j q) (λ e. n (sym e))) (sym (covered_other j covered q i n)) ∙ x.sound i l

        go : Dec (i ≡ last) → sound_from (length_of (old_at j i)) (length_of (new_at j i)) (reach_of i last reach) (get_or covered i 0) (ranges_of i x.ps) ≡ true
        go (no d) = ap (λ (a : ℕ). sound_from (length_of (old_at j i)) (length_of (new_at j i)) a (get_or covered i 0) (ranges_of i x.ps)) (sym (reach_other i last reach d)) ∙ behind_it
        go (yes d) =
            let f = follows_has j last reach covered q t in
            let g : file_at j q ≡ last → ⊥ = λ e. n (e ∙ sym d) in
            let k : ranges_of i x.ps ≡ [] = none_of i (file_at j q) x.ps x.rise (omega (arith, f.above, g)) in
            let y : sound_from (length_of (old_at j i)) (length_of (new_at j i)) 0 (get_or covered i 0) [] ≡ true =
            ap (sound_from (length_of (old_at j i)) (length_of (new_at j i)) 0 (get_or covered i 0)) (sym k) ∙ behind_it in
            ap (sound_from (length_of (old_at j i)) (length_of (new_at j i)) (reach_of i last reach) (get_or covered i 0)) k
            ∙ end_sound (length_of (old_at j i)) (length_of (new_at j i)) (reach_of i last reach) (get_or covered i 0) (within i last reach h)
            (sound_end (length_of (old_at j i)) (length_of (new_at j i)) 0 (get_or covered i 0) y)

    one_more_lem : Accepted j m last reach covered q
    one_more_lem =
        let f = follows_has j last reach covered q t in
        record {
          ps = placed_at j q ∷ x.ps;
          encodes = more_encodes;
          rise = (f.above, f.file, x.rise);
          some = more_some;
          sound = λ i l. by_file i l (ℕ_discrete (file_at j q) i);
        }
      where
        by_file : (i : ℕ) → i < 10 → Dec (file_at j q ≡ i) → sound_from (length_of (old_at j i)) (length_of (new_at j i)) (reach_of i last reach) (get_or covered i 0) (ranges_of i
            (placed_at j q ∷ x.ps)) ≡ true
        by_file i l (yes e) = sound_here i l e
        by_file i l (no n) = sound_other i l n

  pub accepted : (k last reach : ℕ) (covered : List ℕ) (q : ℕ) → length covered ≡ 10 → q ≤ m → reach ≤ length_of (new_at j last) → is_ok (walk j m k last reach covered q) ≡ true
      → Accepted j m last reach covered q
  accepted zero last reach covered q c g h e = not_both (sym (ap is_ok (walk_none j m last reach covered q)) ∙ e)
  accepted (suc k) last reach covered q c g h e =
      go
      (λ w t l.
      one_more_lem last reach covered q w t h c
      (accepted k (file_at j q) (stop_at j q) (covered_by j covered q) (behind j q) (covered_long j covered q ∙ c) (whole_end j m q w) (follows_has j last reach covered q t).ends
      (sym (ap is_ok (walk_on j m k last reach covered q l w t)) ∙ e)))
      (ℕ_discrete q m) (whole j m q) refl (follows j last reach covered q) refl
    where
      go : (whole j m q ≡ true → follows j last reach covered q ≡ true → q < m → Accepted j m last reach covered q)
          → Dec (q ≡ m) → (a : Bool) → whole j m q ≡ a → (b : Bool) → follows j last reach covered q ≡ b → Accepted j m last reach covered q
      go next (yes d) a w b t =
          at_end last reach covered q d h
          (lowest_none (is_full j covered) 10 (gap_nowhere _ _ (sym (ap is_ok (walk_end j m k last reach covered q d)) ∙ e)))
      go next (no d) false w b t = not_both (sym (ap is_ok (walk_cut j m k last reach covered q (omega arith) w)) ∙ e)
      go next (no d) true w false t = not_both (sym (ap is_ok (walk_off j m k last reach covered q (omega arith) w t)) ∙ e)
      go next (no d) true w true t = next w t (omega arith)
