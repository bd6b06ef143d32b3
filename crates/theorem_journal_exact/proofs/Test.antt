-- Whether a change is sound, as it computes: one walk over the ranges, proved exact. Assumes nothing.
use Prim.Native.Nat.{ℕ, ◌+◌, ◌≤◌, ◌<◌, max}
use native.Mathlib.Omega.{arith}
use native.Mathlib.Decide.{dec_le}
use mathlib.Core.Path.{◌≡◌, refl, sym, ap, ◌∙◌, subst}
use mathlib.Core.Logic.{◌⊎◌, inl, inr, ⊎_elim}
use mathlib.Core.Bool.{Bool, true, false, ◌&&◌, ◌||◌, not}
use mathlib.Core.List.Memᴰ
use mathlib.Core.List.{List, [], ◌∷◌}
use lib.ListN.{length}
use lib.Dec.{eqb, leb}
use borrow.Author.Tests.{eqb-true, eq-eqb, leb-true, le-leb}
use Rattle.byte_strings.proofs.Bools.{both_true, true_both, or_true}
use Rattle.journal.specs.Ranges.{Range, replaced, fresh, blank, witness, start, stop, Change}
use Rattle.journal.specs.Form.{Holds, Free, In, Rising, Fits, Sound}
use Rattle.theorem_journal_recovers.proofs.Places.{rising_end, rising_from}

-- kinds 2 and 3
unfoldable pub is_free : Range → Bool
is_free (replaced at o n) = false
is_free (fresh at n) = true
is_free (blank at k) = true
is_free (witness at w) = false

-- as many old bytes as new ones, within the length m before
unfoldable pub fitting : ℕ → Range → Bool
fitting m (replaced at o n) = eqb (length o) (length n) && leb (at + length o) m
fitting m (fresh at n) = true
fitting m (blank at k) = true
fitting m (witness at w) = leb (at + length w) m

-- the test of one range: behind a, which is the end of the range before, within the new length, fitting, and, where it is free, from p on backwards, where
-- what is covered ends
unfoldable pub range_right : ℕ → ℕ → ℕ → ℕ → Range → Bool
range_right old new a p r = leb a (start r) && (leb (stop r) new && (fitting old r && (not (is_free r) || leb (start r) p)))

-- the walk
unfoldable pub sound_from : ℕ → ℕ → ℕ → ℕ → List Range → Bool
sound_from old new a p [] = leb a new && leb new p
sound_from old new a p (r ∷ rs) = range_right old new a p r && sound_from old new (stop r) (max p (stop r)) rs

free_or_not : (r : Range) → ((is_free r ≡ true) × Free r) ⊎ ((is_free r ≡ false) × (Free r → ⊥))
unfolding is_free
free_or_not (replaced at o n) = inr (refl, λ x. x)
free_or_not (fresh at n) = inl (refl, tt)
free_or_not (blank at k) = inl (refl, tt)
free_or_not (witness at w) = inr (refl, λ x. x)

fitting_fits : (m : ℕ) (r : Range) → fitting m r ≡ true → Fits m r
unfolding fitting
fitting_fits m (replaced at o n) e = let x = both_true (eqb (length o) (length n)) (leb (at + length o) m) e in (eqb-true _ _ x.0, leb-true _ _ x.1)
fitting_fits m (fresh at n) e = tt
fitting_fits m (blank at k) e = tt
fitting_fits m (witness at w) e = leb-true _ _ e

fits_fitting : (m : ℕ) (r : Range) → Fits m r → fitting m r ≡ true
unfolding fitting
fits_fitting m (replaced at o n) x = true_both (eqb (length o) (length n)) (leb (at + length o) m) (eq-eqb _ _ x.0) (le-leb _ _ x.1)
fits_fitting m (fresh at n) x = refl
fits_fitting m (blank at k) x = refl
fits_fitting m (witness at w) x = le-leb _ _ x

-- a range that is not free lies within the length before
pub low : (m : ℕ) (r : Range) → Fits m r → (Free r → ⊥) → stop r ≤ m
low m (replaced at o n) x f = let a = x.0 in let b = x.1 in omega arith
low m (fresh at n) x f = absurd (f tt)
low m (blank at k) x f = absurd (f tt)
low m (witness at w) x f = x

-- what is covered from p on
abbrev Covered : ℕ → ℕ → List Range → Type 0
Covered new p rs = (i : ℕ) → p ≤ i → i < new → (r : Range) × In r rs × Free r × Holds r i

record Walked (old new a p : ℕ) (rs : List Range) : Type 0 where
  rising : Rising a rs new
  fits : (r : Range) → In r rs → Fits old r
  covered : Covered new p rs

-- the test of one range, part by part
record Parts (old new a p : ℕ) (r : Range) (rs : List Range) : Type 0 where
  behind : a ≤ start r
  inside : stop r ≤ new
  fit : Fits old r
  near : Free r → start r ≤ p
  rest : sound_from old new (stop r) (max p (stop r)) rs ≡ true

parts : (old new a p : ℕ) (r : Range) (rs : List Range) → sound_from old new a p (r ∷ rs) ≡ true → Parts old new a p r rs
unfolding sound_from range_right
parts old new a p r rs e =
    let v = both_true (range_right old new a p r) (sound_from old new (stop r) (max p (stop r)) rs) e in
    let x = both_true (leb a (start r)) (leb (stop r) new && (fitting old r && (not (is_free r) || leb (start r) p))) v.0 in
    let y = both_true (leb (stop r) new) (fitting old r && (not (is_free r) || leb (start r) p)) x.1 in
    let z = both_true (fitting old r) (not (is_free r) || leb (start r) p) y.1 in
    record { behind = leb-true _ _ x.0; inside = leb-true _ _ y.0; fit = fitting_fits old r z.0; near = λ f. close (free_or_not r) f z.1; rest = v.1 }
  where
    close : ((is_free r ≡ true) × Free r) ⊎ ((is_free r ≡ false) × (Free r → ⊥)) → Free r → (not (is_free r) || leb (start r) p) ≡ true → start r ≤ p
    close (inl g) f d = leb-true _ _ (sym (ap (λ (b : Bool). not b || leb (start r) p) g.0) ∙ d)
    close (inr g) f d = absurd (g.1 f)

from_parts : (old new a p : ℕ) (r : Range) (rs : List Range) → Parts old new a p r rs → sound_from old new a p (r ∷ rs) ≡ true
unfolding sound_from range_right
from_parts old new a p r rs x =
    true_both (range_right old new a p r) _
    (true_both (leb a (start r)) _ (le-leb _ _ x.behind)
    (true_both (leb (stop r) new) _ (le-leb _ _ x.inside) (true_both (fitting old r) _ (fits_fitting old r x.fit) (close (free_or_not r)))))
    x.rest
  where
    close : ((is_free r ≡ true) × Free r) ⊎ ((is_free r ≡ false) × (Free r → ⊥)) → (not (is_free r) || leb (start r) p) ≡ true
    close (inl g) = ap (λ (b : Bool). not (is_free r) || b) (le-leb _ _ (x.near g.1)) ∙ or_true (not (is_free r))
    close (inr g) = ap (λ (b : Bool). not b || leb (start r) p) g.0

-- ---- what passes is sound

walked : (old new a p : ℕ) (rs : List Range) → old ≤ p → sound_from old new a p rs ≡ true → Walked old new a p rs
unfolding sound_from
walked old new a p [] o e =
    let x = both_true (leb a new) (leb new p) e in
    let y : new ≤ p = leb-true new p x.1 in
    record { rising = leb-true _ _ x.0; fits = λ r m. absurd (Memᴰ.not-nil m); covered = λ i h l. absurd (omega arith) }
walked old new a p (r ∷ rs) o e = more old new a p r rs o x (walked old new (stop r) (max p (stop r)) rs (omega arith) x.rest)
  where
    x : Parts old new a p r rs
    x = parts old new a p r rs e

    more : (old new a p : ℕ) (r : Range) (rs : List Range) → old ≤ p → Parts old new a p r rs → Walked old new (stop r) (max p (stop r)) rs → Walked old new a p (r ∷ rs)
    more old new a p r rs o x w =
        record {
          rising = (x.behind, w.rising);
          fits = λ q m. ⊎_elim (λ d. subst (λ (y : Range). Fits old y) (sym d) x.fit) (λ t. w.fits q t) (Memᴰ.cases_cons m);
          covered = λ i h l. at_place i h l (free_or_not r) (dec_le (stop r) i);
        }
      where
        behind : (i : ℕ) → max p (stop r) ≤ i → i < new → (q : Range) × In q (r ∷ rs) × Free q × Holds q i
        behind i h l = let y = w.covered i h l in (y.0, Memᴰ.tail y.1, y.2, y.3)

        at_place : (i : ℕ) → p ≤ i → i < new → ((is_free r ≡ true) × Free r) ⊎ ((is_free r ≡ false) × (Free r → ⊥)) → Dec (stop r ≤ i)
            → (q : Range) × In q (r ∷ rs) × Free q × Holds q i
        at_place i h l f (yes g) = behind i (omega arith) l
        at_place i h l (inl f) (no g) = (r, Memᴰ.head refl, f.1, let k = x.near f.1 in omega arith)
        at_place i h l (inr f) (no g) = let k = low old r x.fit f.1 in behind i (omega arith) l

-- ---- what is sound passes

passes : (old new a p : ℕ) (rs : List Range) → Walked old new a p rs → sound_from old new a p rs ≡ true
unfolding sound_from
passes old new a p [] w = true_both (leb a new) (leb new p) (le-leb _ _ w.rising) (le-leb _ _ (full (dec_le new p)))
  where
    full : Dec (new ≤ p) → new ≤ p
    full (yes h) = h
    full (no h) = absurd (Memᴰ.not-nil (w.covered p (omega arith) (omega arith)).1)
passes old new a p (r ∷ rs) w =
    from_parts old new a p r rs
    (record {
      behind = w.rising.0;
      inside = rising_end (stop r) rs new w.rising.1;
      fit = w.fits r (Memᴰ.head refl);
      near = λ f. near
          (dec_le (start r) p);
      rest = passes old new (stop r) (max p (stop r)) rs rest;
    })
  where
    near : Dec (start r ≤ p) → start r ≤ p
    near (yes h) = h
    near (no h) =
        let u : stop r ≤ new = rising_end (stop r) rs new w.rising.1 in
        let y = w.covered p (omega arith) (omega arith) in
        ⊎_elim (λ d. absurd (h (subst (λ (q : Range). Holds q p) d y.3).0))
        (λ t. let k = rising_from (stop r) rs new w.rising.1 y.0 t in let g = y.3.0 in absurd (omega arith)) (Memᴰ.cases_cons y.1)

    rest : Walked old new (stop r) (max p (stop r)) rs
    rest =
        record {
          rising = w.rising.1;
          fits = λ q m. w.fits q (Memᴰ.tail m);
          covered = λ i h l.
              let y = w.covered i (omega arith) l in
              ⊎_elim (λ d. let g = subst (λ (q : Range). Holds q i) d y.3 in absurd (omega arith)) (λ t. (y.0, t, y.2, y.3)) (Memᴰ.cases_cons y.1);
        }

pub sound_tested : (c : Change) → c.old ≤ c.new → sound_from c.old c.new 0 c.old c.ranges ≡ true → Sound c
sound_tested c g e =
    let w = walked c.old c.new 0 c.old c.ranges (omega arith) e in
    record { grows = g; rising = w.rising; fits = w.fits; covered = w.covered }

pub tested_sound : (c : Change) → Sound c → sound_from c.old c.new 0 c.old c.ranges ≡ true
tested_sound c s = passes c.old c.new 0 c.old c.ranges (record { rising = s.rising; fits = s.fits; covered = s.covered })
