-- The calls together. Assumes nothing.
use Rattle.std.specs.Prelude.{Ok, is_ok}
use Prim.Native.Nat.{ℕ, suc, ◌+◌, ◌-◌, ◌≤◌, ◌<◌}
use native.Mathlib.Omega.{arith}
use mathlib.Core.Path.{◌≡◌, refl, sym, ap, ap₂, ◌∙◌, subst}
use mathlib.Core.Bool.{Bool, true, false}
use mathlib.Core.List.{List, [], ◌∷◌, Memᴰ}
use lib.ListN.{length}
use lib.Dec.{leb}
use borrow.Author.Tests.{leb-true, le-leb}
use Rattle.byte_strings.specs.Lists.{part}
use Rattle.byte_strings.proofs.Bools.{both_true, true_both, not_both}
use Rattle.journal.specs.Ranges.{Range, Placed}
use Rattle.journal.specs.Form.{Journal, WellFormed, encode_all, journal_bytes, old_state, new_state, length_of, state_of, FilesRise, In}
use Rattle.journal.specs.Places.{old_at, new_at, body_length}
use Rattle.journal.specs.Reading.{states_said}
use Rattle.journal.proofs.Answers.{done_written, states_done_lem, states_unfit}
use Rattle.journal_meeting.specs.Between.{met, state_met, between}
use Rattle.journal_meeting.proofs.Steps.{between_state, between_on}
use Rattle.theorem_journal_recovers.specs.Archive.{File, absent, there, state, contents, BetweenFile}
use Rattle.theorem_journal_recovers.proofs.Archive.{archive_recovers, state_length}
use Rattle.theorem_journal_exact.specs.Exact.{Hashed}
use Rattle.theorem_journal_exact.proofs.Passes.{none_long}
use Rattle.theorem_journal_exact.proofs.Made.{Encodable}
use Rattle.theorem_journal_exact.proofs.Laid.{encodable}
use Rattle.theorem_journal_exact.proofs.Encoded.{reading_accepts, long_right_lem, old_is, new_is, ranges_are, body_length_lem, body_long}
use Rattle.theorem_journal_whole.specs.Whole.{from_file, place_in, is_there, SaysBetween, states_left, Judges, JudgesForAll, AcceptedForAll}
use Rattle.theorem_journal_whole.proofs.Mixed.{met_mixed, mixed_met}
use Rattle.theorem_journal_whole.proofs.Gives.{gives}
use Rattle.theorem_journal_whole.proofs.OneFile.{from_first, from_last, from_rise, from_ranges, from_each, from_stands, from_from, met_passes, met_all}

state_is : (f : File) → state_of (is_there f) (length (contents f)) ≡ state f
state_is absent = refl
state_is (there f) = refl

-- the test of a file's state, both ways
met_states : (j : List ℕ) (i s : ℕ) → state_met j i s ≡ true → (old_at j i ≤ s) × (s ≤ new_at j i)
unfolding state_met
met_states j i s e = let x = both_true (leb (old_at j i) s) (leb s (new_at j i)) e in (leb-true _ _ x.0, leb-true _ _ x.1)

states_met : (j : List ℕ) (i s : ℕ) → old_at j i ≤ s → s ≤ new_at j i → state_met j i s ≡ true
unfolding state_met
states_met j i s a b = true_both (leb (old_at j i) s) (leb s (new_at j i)) (le-leb _ _ a) (le-leb _ _ b)

module _ (F : List ℕ → List ℕ) (x : Journal) (w : WellFormed x) (fl : Hashed F x) where
  abbrev j : List ℕ
  j = journal_bytes F x

  abbrev m : ℕ
  m = body_length (journal_bytes F x)

  at_first : place_in j x 0 ≡ 184
  unfolding place_in
  at_first =
      let a = body_length_lem F x w fl in
      let b = body_long F x w in
      ap (λ (qs : List Placed). m - length (encode_all qs)) (from_first x.ranges) ∙ omega arith

  at_last : place_in j x 10 ≡ m
  unfolding place_in
  at_last = let n = none_long in ap (λ (qs : List Placed). m - length (encode_all qs)) (from_last 0 x.ranges w.files) ∙ omega arith

  module _ (i : ℕ) (h : i < 10) (f : File) where
    place_is : place_in j x i ≡ m - length (encode_all (from_file i x.ranges))
    unfolding place_in
    place_is = refl

    next_is : m - length (encode_all (from_file (i + 1) (from_file i x.ranges))) ≡ place_in j x (i + 1)
    unfolding place_in
    next_is = ap (λ (qs : List Placed). m - length (encode_all qs)) (from_from i x.ranges)

    -- what stands where the file's ranges begin
    abbrev at : ℕ
    at = m - length (encode_all (from_file i x.ranges))

    found :
        (at ≤ m) × (m < suc (length j) + at) × (part j at (m - at) ≡ encode_all (from_file i x.ranges)) × FilesRise i (from_file i x.ranges)
        × ((p : Placed) → Memᴰ p (from_file i x.ranges) → Encodable p.range)
    found =
        let a = body_length_lem F x w fl in
        let b = body_long F x w in
        let s = from_stands j m (omega arith) i 184 x.ranges (omega arith) (ranges_are F x w fl) in
        let c = s.0 in
        (c, omega arith, s.1, from_rise i 0 x.ranges w.files, from_each (λ p. Encodable p.range) i x.ranges (encodable x w))

    low_enough : old_state x i ≤ state f → length_of (old_state x i) ≤ length (contents f)
    low_enough l = let e = state_length f in omega arith

    -- a file whose state is between
    says_met : (z : ℕ) → between j i at (is_there f) (contents f) ≡ Ok z → (state_met j i (state_of (is_there f) (length (contents f))) ≡ true)
        × (met j m i (contents f) (suc (length j)) at ≡ Ok z)
    says_met z e = go (state_met j i (state_of (is_there f) (length (contents f)))) refl
      where
        go : (b : Bool) → state_met j i (state_of (is_there f) (length (contents f))) ≡ b
            → (state_met j i (state_of (is_there f) (length (contents f))) ≡ true) × (met j m i (contents f) (suc (length j)) at ≡ Ok z)
        go true d = (d, between_on j i at (is_there f) (contents f) (long_right_lem F x w fl) h d _ refl ∙ e)
        go false d = not_both (ap is_ok (between_state j i at (is_there f) (contents f) (long_right_lem F x w fl) h d ∙ e))

    judged : SaysBetween j x i f → BetweenFile x i f
    judged e =
        let y = says_met (place_in j x (i + 1)) (ap (λ (n : ℕ). between j i n (is_there f) (contents f)) (sym place_is) ∙ e) in
        let t = met_states j i (state_of (is_there f) (length (contents f))) y.0 in
        let a = t.0 in
        let b = t.1 in
        let o = old_is F x w i h in
        let n = new_is F x w i h in
        let s = state_is f in
        let l : old_state x i ≤ state f = omega arith in
        record {
          low = l;
          high = omega arith;
          mixed = λ r k.
              met_mixed (length_of (old_state x i)) (contents f) r (low_enough l) ((w.sound i h).fits r k)
              (met_all j m (omega arith) i (contents f) (from_file i x.ranges) (suc (length j)) at (place_in j x (i + 1)) found y.1 r
              (subst (λ (rs : List Range). In r rs) (sym (from_ranges i x.ranges)) k));
        }

    judges : BetweenFile x i f → SaysBetween j x i f
    judges b =
        let l = b.low in
        let g = b.high in
        let o = old_is F x w i h in
        let n = new_is F x w i h in
        let s = state_is f in
        ap (λ (n : ℕ). between j i n (is_there f) (contents f)) place_is
        ∙ sym (between_on j i at (is_there f) (contents f) (long_right_lem F x w fl) h (states_met j i (state_of (is_there f) (length (contents f))) (omega arith) (omega arith)) _ refl)
        ∙ met_passes j m (omega arith) i (contents f) (from_file i x.ranges) (suc (length j)) at found
        (λ r k.
        let t = subst (λ (rs : List Range). In r rs) (from_ranges i x.ranges) k in
        mixed_met (length_of (old_state x i)) (contents f) r (low_enough l) ((w.sound i h).fits r t) (b.mixed r t))
        ∙ ap Ok next_is

  states_left_lem : (i : ℕ) → i < 10 → (lent : List ℕ) → states_left j i lent ≡ old_state x i ∷ new_state x i ∷ []
  states_left_lem i h lent =
      sym (done_written (Ok 0) (states_said j i) (old_at j i ∷ new_at j i ∷ []) lent refl (states_done_lem j i (long_right_lem F x w fl) h))
      ∙ ap₂ (λ (a b : ℕ). a ∷ b ∷ []) (old_is F x w i h) (new_is F x w i h)

  all_judged : Judges j x
  all_judged =
      record {
        first = at_first;
        last = at_last;
        states_done = λ i h. sym (states_done_lem j i (long_right_lem F x w fl) h);
        states = states_left_lem;
        no_file = λ i h. sym (states_unfit j i (long_right_lem F x w fl) h);
        exactly = λ i h f. (judged i h f, judges i h f);
        gives = let a = body_length_lem F x w fl in let b = body_long F x w in gives j (long_right_lem F x w fl) x.ranges 184 (omega arith) (ranges_are F x w fl) (encodable x w);
        settles = λ B A before says same ws a. (archive_recovers x w B before).any_order A (λ i h. judged i h (A i) (says i h)) same ws a;
      }

pub calls_together : JudgesForAll
calls_together = all_judged

pub accepted_judged : AcceptedForAll
accepted_judged F j b e =
    let a = ((reading_accepts F).hashed j b).0 e in
    (a.0, a.1, a.3, subst (λ (y : List ℕ). Judges y a.0) (sym a.3) (all_judged F a.0 a.1 a.2))
