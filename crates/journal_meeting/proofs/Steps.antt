-- The ranges of one file, one after the other, and what the call says. Assumes nothing.
use Prim.Native.Nat.{ℕ, zero, suc, ◌+◌, ◌≤◌, ◌<◌}
use native.Mathlib.Omega.{arith}
use mathlib.Core.Path.{◌≡◌, refl, sym, ap, ap₂, ◌∙◌}
use mathlib.Core.Bool.{Bool, true, false, ◌&&◌}
use mathlib.Core.List.{List}
use lib.ListN.{length}
use lib.Dec.{eqb, leb}
use borrow.Author.Tests.{eq-eqb, ne_eqb, lt-leb, lt-ltb}
use Rattle.byte_strings.specs.Lowest.{Lowest, nowhere, first}
use Rattle.journal.specs.Form.{state_of}
use Rattle.journal.specs.Places.{file_at, kind_at, behind, whole, range_at, length_right, body_length}
use Rattle.journal.specs.Reading.{Said, place_of, whether}
use Rattle.std.specs.Prelude.{Option, Some, None, Ok, Err}
use Rattle.journal.specs.declared.JournalError.TheVariants.{NotBetween, Byte}
use Rattle.journal.proofs.Behind.{behind_least}
use Rattle.journal_meeting.specs.Between.{met_range, or_byte, is_of, met, state_met, between}

module _ (j : List ℕ) (m i : ℕ) (f : List ℕ) where
  -- no range of the file at q
  pub stops : (k q : ℕ) → is_of j m i q ≡ false → met j m i f k q ≡ Ok q
  unfolding met whether
  stops zero q e = refl
  stops (suc k) q e = ap (λ (b : Bool). whether b (or_byte (met_range f (range_at j q)) (met j m i f k (behind j q))) (Ok q)) e

  pub goes : (k q : ℕ) (l : Lowest) → is_of j m i q ≡ true → l ≡ met_range f (range_at j q) → met j m i f (suc k) q ≡ or_byte l (met j m i f k (behind j q))
  unfolding met whether
  goes k q l e d =
      ap (λ (b : Bool). whether b (or_byte (met_range f (range_at j q)) (met j m i f k (behind j q))) (Ok q)) e
      ∙ ap (λ (x : Lowest). or_byte x (met j m i f k (behind j q))) (sym d)

  pub past : (q : ℕ) → m ≤ q → is_of j m i q ≡ false
  unfolding is_of whole
  past q h = ap (λ (b : Bool). (b && ((leb 1 (kind_at j q) && leb (kind_at j q) 4) && leb (behind j q) m)) && eqb (file_at j q) i) (lt-leb (q + 18) m (omega arith))

  cut : (q : ℕ) → whole j m q ≡ false → is_of j m i q ≡ false
  unfolding is_of
  cut q e = ap (λ (b : Bool). b && eqb (file_at j q) i) e

  pub other : (q : ℕ) → whole j m q ≡ true → (file_at j q ≡ i → ⊥) → is_of j m i q ≡ false
  unfolding is_of
  other q e n = ap₂ (λ (a b : Bool). a && b) e (ne_eqb (file_at j q) i n)

  pub of_it : (q : ℕ) → whole j m q ≡ true → file_at j q ≡ i → is_of j m i q ≡ true
  unfolding is_of
  of_it q e d = ap₂ (λ (a b : Bool). a && b) e (eq-eqb (file_at j q) i d)

  -- the ranges from q on, as many as there can be, say all
  abbrev pub Mets : ℕ → ℕ → Type 0
  Mets start q = (k : ℕ) × (m < k + q) × (met j m i f (suc (length j)) start ≡ met j m i f k q)

  pub mets_start : (q : ℕ) → m ≤ length j → Mets q q
  mets_start q h = (suc (length j), omega arith, refl)

  module _ (start q : ℕ) where
    pub mets_past : Mets start q → m ≤ q → Ok q ≡ met j m i f (suc (length j)) start
    mets_past (k, l, e) h = sym (e ∙ stops k q (past q h))

    pub mets_cut : Mets start q → whole j m q ≡ false → Ok q ≡ met j m i f (suc (length j)) start
    mets_cut (k, l, e) h = sym (e ∙ stops k q (cut q h))

    pub mets_other : Mets start q → whole j m q ≡ true → (n : ℕ) → n ≡ file_at j q → (n ≡ i → ⊥) → Ok q ≡ met j m i f (suc (length j)) start
    mets_other (k, l, e) w n x y = sym (e ∙ stops k q (other q w (λ d. y (x ∙ d))))

    module _ (w : whole j m q ≡ true) (n : ℕ) (x : n ≡ file_at j q) (y : n ≡ i) (p : Option ℕ) (z : place_of p ≡ met_range f (range_at j q)) where
      pub mets_byte : Mets start q → q < m → (o : ℕ) → p ≡ Some o → Err (Byte o) ≡ met j m i f (suc (length j)) start
      unfolding or_byte
      mets_byte (zero, l, e) h o d = absurd (omega arith)
      mets_byte (suc k, l, e) h o d = sym (e ∙ goes k q (first o) (of_it q w (sym x ∙ y)) (sym (ap place_of d) ∙ z))

      pub mets_on : Mets start q → q < m → (r : ℕ) → r ≡ behind j q → p ≡ None → Mets start r
      unfolding or_byte
      mets_on (zero, l, e) h r v d = absurd (omega arith)
      mets_on (suc k, l, e) h r v d =
          (k, (let g = behind_least j q in omega arith), (e ∙ goes k q nowhere (of_it q w (sym x ∙ y)) (sym (ap place_of d) ∙ z) ∙ ap (met j m i f k) (sym v)))

-- ---- the call

module _ (j : List ℕ) (i q : ℕ) (there : Bool) (f : List ℕ) where
  module _ (l : length_right (length j) ≡ true) where
    pub between_state : i < 10 → state_met j i (state_of there (length f)) ≡ false → Err (NotBetween i) ≡ between j i q there f
    unfolding between whether
    between_state h e = rw (l, lt-ltb i 10 h, e)

    pub between_on : i < 10 → state_met j i (state_of there (length f)) ≡ true → (r : Said) → r ≡ met j (body_length j) i f (suc (length j)) q → r ≡ between j i q there f
    unfolding between whether
    between_on h e r d = d ∙ rw (l, lt-ltb i 10 h, e)
