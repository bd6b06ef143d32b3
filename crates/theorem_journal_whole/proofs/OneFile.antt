-- The ranges of one file that were encoded, one after the other. Assumes nothing.
use Rattle.std.specs.Prelude.{Err, Ok}
use Prim.Native.Nat.{ℕ, zero, suc, ◌+◌, ◌-◌, ◌≤◌, ◌<◌}
use native.Mathlib.Omega.{arith}
use native.Mathlib.Decide.{ℕ_discrete, dec_le}
use mathlib.Core.Path.{◌≡◌, refl, sym, ap, ◌∙◌, subst}
use mathlib.Core.Logic.{⊎_elim}
use mathlib.Core.Bool.{Bool, true, false}
use mathlib.Core.List.Memᴰ
use mathlib.Core.List.{List, [], ◌∷◌, ◌++◌, Memᴰ}
use lib.ListN.{length, length-append}
use borrow.Author.Tests.{lt-ltb, le-ltb}
use Rattle.byte_strings.specs.Lists.{part}
use Rattle.byte_strings.specs.Lowest.{Lowest, nowhere, first}
use Rattle.byte_strings.proofs.Lists.{length_part}
use Rattle.journal.specs.Reading.{Said}
use Rattle.journal.specs.Ranges.{Range, Placed, ranges_of}
use Rattle.journal.specs.Form.{In, encode, encode_all, FilesRise}
use Rattle.journal.specs.Places.{behind}
use Rattle.journal.specs.declared.JournalError.TheVariants.{Byte}
use Rattle.journal.proofs.Behind.{behind_least}
use Rattle.journal_meeting.specs.Between.{met_range, or_byte, met}
use Rattle.journal_meeting.proofs.Steps.{stops, goes, past, other, of_it as its_own}
use Rattle.theorem_journal_exact.proofs.Walk.{none_of, of_it, of_others, none_ranges}
use Rattle.theorem_journal_exact.proofs.Made.{Encodable, Stands, stands}
use Rattle.theorem_journal_exact.proofs.Passes.{behind_part, one_encoded, none_long}
use Rattle.theorem_journal_whole.specs.Whole.{from_file}

-- ---- from a file on

module _ (i : ℕ) (p : Placed) (ps : List Placed) where
  skips : p.file < i → from_file i (p ∷ ps) ≡ from_file i ps
  unfolding from_file
  skips h = ap (λ (b : Bool). elim b as (λ x. List Placed) [ true ↦ from_file i ps | false ↦ p ∷ ps ]) (lt-ltb p.file i h)

  begins_here : i ≤ p.file → from_file i (p ∷ ps) ≡ p ∷ ps
  unfolding from_file
  begins_here h = ap (λ (b : Bool). elim b as (λ x. List Placed) [ true ↦ from_file i ps | false ↦ p ∷ ps ]) (le-ltb p.file i h)

from_none : (i : ℕ) → from_file i [] ≡ []
unfolding from_file
from_none i = refl

-- no file is below 0, and none above the last
pub from_first : (ps : List Placed) → from_file 0 ps ≡ ps
from_first [] = from_none 0
from_first (p ∷ ps) = begins_here 0 p ps (omega arith)

pub from_last : (f : ℕ) (ps : List Placed) → FilesRise f ps → from_file 10 ps ≡ []
from_last f [] r = from_none 10
from_last f (p ∷ ps) r = skips 10 p ps r.1 ∙ from_last p.file ps r.2

-- they rise from the file on, and hold all its ranges
pub from_rise : (i f : ℕ) (ps : List Placed) → FilesRise f ps → FilesRise i (from_file i ps)
from_rise i f [] r = subst (λ (qs : List Placed). FilesRise i qs) (sym (from_none i)) tt
from_rise i f (p ∷ ps) r = go (from_rise i p.file ps r.2) (dec_le i p.file)
  where
    go : FilesRise i (from_file i ps) → Dec (i ≤ p.file) → FilesRise i (from_file i (p ∷ ps))
    go x (yes h) = subst (λ (qs : List Placed). FilesRise i qs) (sym (begins_here i p ps h)) (h, r.1, r.2)
    go x (no h) = subst (λ (qs : List Placed). FilesRise i qs) (sym (skips i p ps (omega arith))) x

pub from_ranges : (i : ℕ) (ps : List Placed) → ranges_of i (from_file i ps) ≡ ranges_of i ps
from_ranges i [] = ap (ranges_of i) (from_none i)
from_ranges i (p ∷ ps) = go (from_ranges i ps) (dec_le i p.file)
  where
    go : ranges_of i (from_file i ps) ≡ ranges_of i ps → Dec (i ≤ p.file) → ranges_of i (from_file i (p ∷ ps)) ≡ ranges_of i (p ∷ ps)
    go x (yes h) = ap (ranges_of i) (begins_here i p ps h)
    go x (no h) = ap (ranges_of i) (skips i p ps (omega arith)) ∙ x ∙ sym (of_others i p ps (omega arith))

pub from_each : (P : Placed → Type 0) (i : ℕ) (ps : List Placed) → ((p : Placed) → Memᴰ p ps → P p) → (p : Placed) → Memᴰ p (from_file i ps) → P p
from_each P i [] a p k = a p (subst (λ (qs : List Placed). Memᴰ p qs) (from_none i) k)
from_each P i (q ∷ ps) a p k = go (from_each P i ps (λ z t. a z (Memᴰ.tail t)) p) (dec_le i q.file)
  where
    go : (Memᴰ p (from_file i ps) → P p) → Dec (i ≤ q.file) → P p
    go x (yes h) = a p (subst (λ (qs : List Placed). Memᴰ p qs) (begins_here i q ps h) k)
    go x (no h) = x (subst (λ (qs : List Placed). Memᴰ p qs) (skips i q ps (omega arith)) k)

module _ (j : List ℕ) (m : ℕ) (ml : m ≤ length j) where
  -- where ranges stand up to the end, their length is what is left
  left : (q : ℕ) (ps : List Placed) → q ≤ m → part j q (m - q) ≡ encode_all ps → m - length (encode_all ps) ≡ q
  left q ps g h = let x : length (part j q (m - q)) ≡ m - q = length_part j q (m - q) (omega arith) in let y = ap length h in omega arith

  pub behind_first : (q : ℕ) (p : Placed) (ps : List Placed) → q ≤ m → part j q (m - q) ≡ encode_all (p ∷ ps) → (q + length (encode p) ≤ m) ×
      (part j (q + length (encode p)) (m - (q + length (encode p))) ≡ encode_all ps)
  behind_first q p ps g h =
      let e : part j q (m - q) ≡ encode p ++ encode_all ps = h ∙ one_encoded p ps in
      let x : length (part j q (m - q)) ≡ m - q = length_part j q (m - q) (omega arith) in
      let y : length (part j q (m - q)) ≡ length (encode p) + length (encode_all ps) = ap length e ∙ length-append (encode p) (encode_all ps) in
      let d : m - (q + length (encode p)) ≡ m - q - length (encode p) = omega arith in
      (omega arith, ap (part j (q + length (encode p))) d ∙ behind_part j (encode p) (encode_all ps) q (m - q) (omega arith) e)

  -- the ranges from a file on stand where they begin
  pub from_stands : (i q : ℕ) (ps : List Placed) → q ≤ m → part j q (m - q) ≡ encode_all ps
      → (m - length (encode_all (from_file i ps)) ≤ m) × (part j (m - length (encode_all (from_file i ps))) (m - (m - length (encode_all (from_file i ps)))) ≡ encode_all (from_file i ps))
  from_stands i q [] g h =
      let e : from_file i [] ≡ [] = from_none i in
      let d : m - length (encode_all (from_file i [])) ≡ q = ap (λ (qs : List Placed). m - length (encode_all qs)) e ∙ left q [] g h in
      (omega arith, ap (λ (n : ℕ). part j n (m - n)) d ∙ h ∙ ap encode_all (sym e))
  from_stands i q (p ∷ ps) g h = go (let b = behind_first q p ps g h in from_stands i (q + length (encode p)) ps b.0 b.1) (dec_le i p.file)
    where
      go : (m - length (encode_all (from_file i ps)) ≤ m) × (part j (m - length (encode_all (from_file i ps))) (m - (m - length (encode_all (from_file i ps)))) ≡ encode_all (from_file i ps))
          → Dec (i ≤ p.file)
          → (m - length (encode_all (from_file i (p ∷ ps))) ≤ m) ×
          (part j (m - length (encode_all (from_file i (p ∷ ps)))) (m - (m - length (encode_all (from_file i (p ∷ ps))))) ≡ encode_all (from_file i (p ∷ ps)))
      go x (yes l) =
          let e : from_file i (p ∷ ps) ≡ p ∷ ps = begins_here i p ps l in
          let d : m - length (encode_all (from_file i (p ∷ ps))) ≡ q = ap (λ (qs : List Placed). m - length (encode_all qs)) e ∙ left q (p ∷ ps) g h in
          (omega arith, ap (λ (n : ℕ). part j n (m - n)) d ∙ h ∙ ap encode_all (sym e))
      go x (no l) =
          let e : from_file i ps ≡ from_file i (p ∷ ps) = sym (skips i p ps (omega arith)) in
          subst
          (λ (qs : List Placed). (m - length (encode_all qs) ≤ m) × (part j (m - length (encode_all qs)) (m - (m - length (encode_all qs))) ≡ encode_all qs)) e x

  -- ---- one file's ranges

  module _ (i : ℕ) (f : List ℕ) where
    on_nowhere : (s : Said) → or_byte nowhere s ≡ s
    unfolding or_byte
    on_nowhere s = refl

    on_byte : (o : ℕ) (s : Said) → or_byte (first o) s ≡ Err (Byte o)
    unfolding or_byte
    on_byte o s = refl

    -- what stands at q
    abbrev Given : ℕ → ℕ → List Placed → Type 0
    Given k q ps = (q ≤ m) × (m < k + q) × (part j q (m - q) ≡ encode_all ps) × FilesRise i ps × ((p : Placed) → Memᴰ p ps → Encodable p.range)

    first_stands : (k q : ℕ) (p : Placed) (ps : List Placed) → Given k q (p ∷ ps) → Stands j m q p
    first_stands k q p ps g = stands j m q g.0 ml p (g.4 p (Memᴰ.head refl)) (encode_all ps) (g.2 ∙ one_encoded p ps)

    rest_given : (k q : ℕ) (p : Placed) (ps : List Placed) → Given (suc k) q (p ∷ ps) → p.file ≡ i → Given k (behind j q) ps
    rest_given k q p ps g e =
        let s = first_stands (suc k) q p ps g in
        let b = behind_first q p ps g.0 g.2 in
        let z = s.ends in
        let l = behind_least j q in
        let n = g.1 in
        let c = b.0 in (
          omega arith,
          omega arith,
          ap (λ (n : ℕ). part j n (m - n)) z ∙ b.1,
          subst (λ (n : ℕ). FilesRise n ps) e g.3.2,
          λ y t. g.4 y (Memᴰ.tail t),
        )

    pub met_passes : (ps : List Placed) (k q : ℕ) → Given k q ps → ((r : Range) → In r (ranges_of i ps) → met_range f r ≡ nowhere)
        → met j m i f k q ≡ Ok (m - length (encode_all (from_file (i + 1) ps)))
    met_passes [] k q g a =
        let d = left q [] g.0 g.2 in
        let y = none_long in
        stops j m i f k q (past j m i f q (omega arith)) ∙ ap Ok (sym (ap (λ (qs : List Placed). m - length (encode_all qs)) (from_none (i + 1)) ∙ d))
    met_passes (p ∷ ps) zero q g a = absurd (let n = g.1 in let l = g.0 in omega arith)
    met_passes (p ∷ ps) (suc k) q g a =
        go
        (λ e. met_passes ps k (behind j q) (rest_given k q p ps g e) (λ r t. a r (subst (λ (rs : List Range). In r rs) (sym (of_it i p ps e)) (Memᴰ.tail t))))
        (ℕ_discrete p.file i)
      where
        s : Stands j m q p
        s = first_stands (suc k) q p ps g

        go : (p.file ≡ i → met j m i f k (behind j q) ≡ Ok (m - length (encode_all (from_file (i + 1) ps)))) → Dec (p.file ≡ i)
            → met j m i f (suc k) q ≡ Ok (m - length (encode_all (from_file (i + 1) (p ∷ ps))))
        go x (yes e) =
            goes j m i f k q nowhere (its_own j m i f q s.is_whole (s.file ∙ e))
            (sym (ap (met_range f) s.range ∙ a p.range (subst (λ (rs : List Range). In p.range rs) (sym (of_it i p ps e)) (Memᴰ.head refl))))
            ∙ on_nowhere (met j m i f k (behind j q)) ∙ x e ∙ ap (λ (qs : List Placed). Ok (m - length (encode_all qs))) (sym (skips (i + 1) p ps (omega arith)))
        go x (no n) =
            let l = g.3.0 in
            stops j m i f (suc k) q (other j m i f q s.is_whole (λ d. n (sym s.file ∙ d)))
            ∙ ap Ok (sym (ap (λ (qs : List Placed). m - length (encode_all qs)) (begins_here (i + 1) p ps (omega (arith, n))) ∙ left q (p ∷ ps) g.0 g.2))

    pub met_all : (ps : List Placed) (k q z : ℕ) → Given k q ps → met j m i f k q ≡ Ok z → (r : Range) → In r (ranges_of i ps) → met_range f r ≡ nowhere
    met_all [] k q z g d r t = absurd (Memᴰ.not-nil (subst (λ (rs : List Range). In r rs) (none_ranges i) t))
    met_all (p ∷ ps) zero q z g d r t = absurd (let n = g.1 in let l = g.0 in omega arith)
    met_all (p ∷ ps) (suc k) q z g d r t = go (λ e c. met_all ps k (behind j q) z (rest_given k q p ps g e) c r) (ℕ_discrete p.file i) (met_range f p.range) refl
      where
        s : Stands j m q p
        s = first_stands (suc k) q p ps g

        go : (p.file ≡ i → met j m i f k (behind j q) ≡ Ok z → In r (ranges_of i ps) → met_range f r ≡ nowhere) → Dec (p.file ≡ i) → (l : Lowest) → met_range f p.range ≡ l → met_range f r ≡ nowhere
        go x (yes e) nowhere c =
            let y = goes j m i f k q nowhere (its_own j m i f q s.is_whole (s.file ∙ e)) (sym (ap (met_range f) s.range ∙ c)) ∙ on_nowhere (met j m i f k (behind j q)) in
            ⊎_elim (λ b. ap (met_range f) b ∙ c) (λ b. x e (sym y ∙ d) b) (Memᴰ.cases_cons (subst (λ (rs : List Range). In r rs) (of_it i p ps e) t))
        go x (yes e) (first o) c =
            let y : met j m i f (suc k) q ≡ Err (Byte o) =
            goes j m i f k q (first o) (its_own j m i f q s.is_whole (s.file ∙ e)) (sym (ap (met_range f) s.range ∙ c)) ∙ on_byte o (met j m i f k (behind j q)) in
            let b : Err (Byte o) ≡ Ok z = sym y ∙ d in
            let v : ◌≡◌ {A = ℕ} 0 1 = cc in
            absurd (omega arith)
        go x (no n) l c =
            let h = g.3.0 in
            absurd (Memᴰ.not-nil (subst (λ (rs : List Range). In r rs) (of_others i p ps n ∙ none_of i p.file ps g.3.2 (omega (arith, n))) t))

pub from_from : (i : ℕ) (ps : List Placed) → from_file (i + 1) (from_file i ps) ≡ from_file (i + 1) ps
from_from i [] = ap (from_file (i + 1)) (from_none i)
from_from i (p ∷ ps) = go (from_from i ps) (dec_le i p.file)
  where
    go : from_file (i + 1) (from_file i ps) ≡ from_file (i + 1) ps → Dec (i ≤ p.file) → from_file (i + 1) (from_file i (p ∷ ps)) ≡ from_file (i + 1) (p ∷ ps)
    go x (yes h) = ap (from_file (i + 1)) (begins_here i p ps h)
    go x (no h) = ap (from_file (i + 1)) (skips i p ps (omega arith)) ∙ x ∙ sym (skips (i + 1) p ps (omega arith))
