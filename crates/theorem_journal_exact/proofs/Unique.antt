-- Bytes are the encoding of one journal alone. Assumes nothing.
use Prim.Native.Nat.{ℕ, zero, suc, ◌+◌, ◌-◌, ◌*◌, ◌≤◌, ◌<◌}
use native.Mathlib.Omega.{arith}
use mathlib.Core.Path.{◌≡◌, refl, sym, ap, ap₂, ◌∙◌}
use mathlib.Core.Logic.{◌⊎◌, inl, inr, ⊎_elim}
use mathlib.Core.List.{List, [], ◌∷◌, ◌++◌, Memᴰ}
use lib.ListN.{length, get_or, take}
use Rattle.byte_strings.specs.Lists.{part, zeros}
use Rattle.byte_strings.proofs.Lists.{length_part, run_ext, run_get_or}
use Rattle.journal.specs.Ranges.{Range, Placed}
use Rattle.journal.specs.Form.{Journal, WellFormed, encode, encode_all, body, journal_bytes}
use Rattle.journal.specs.Places.{old_at, new_at, behind, body_length}
use Rattle.journal.specs.Reading.{own_length}
use Rattle.journal.proofs.Behind.{behind_least, whole_end}
use Rattle.theorem_journal_exact.specs.Exact.{UniqueForAll}
use Rattle.theorem_journal_exact.proofs.Made.{Encodable, Stands, stands}
use Rattle.theorem_journal_exact.proofs.Passes.{one_encoded, none_long, behind_part}
use Rattle.theorem_journal_exact.proofs.Laid.{encodable}
use Rattle.theorem_journal_exact.proofs.Encoded.{body_taken, old_is, new_is, ranges_are, body_length_lem, body_long}

-- ---- the ranges

module _ (j : List ℕ) (m : ℕ) (ml : m ≤ length j) where
  abbrev At : ℕ → List Placed → Type 0
  At q ps = (part j q (m - q) ≡ encode_all ps) × ((p : Placed) → Memᴰ p ps → Encodable p.range)

  first_at_lem : (q : ℕ) (p : Placed) (ps : List Placed) → q ≤ m → At q (p ∷ ps) → Stands j m q p
  first_at_lem q p ps g a = stands j m q g ml p (a.1 p (Memᴰ.head refl)) (encode_all ps) (a.0 ∙ one_encoded p ps)

  rest_at : (q : ℕ) (p : Placed) (ps : List Placed) → q ≤ m → At q (p ∷ ps) → At (behind j q) ps
  rest_at q p ps g a =
      let z = (first_at_lem q p ps g a).ends in
      let d : m - behind j q ≡ m - q - length (encode p) = omega arith in
      (ap₂ (part j) z d ∙ behind_part j (encode p) (encode_all ps) q (m - q) (omega arith) (a.0 ∙ one_encoded p ps), λ r k. a.1 r (Memᴰ.tail k))

  -- where nothing is left there is no range
  none_at : (q : ℕ) (p : Placed) (ps : List Placed) → q ≤ m → At q [] → At q (p ∷ ps) → ⊥
  none_at q p ps g a b =
      let x : length (part j q (m - q)) ≡ m - q = length_part j q (m - q) (omega arith) in
      let y : length (part j q (m - q)) ≡ 0 = ap length a.0 ∙ none_long in
      let s = first_at_lem q p ps g b in
      let l = behind_least j q in
      let e = whole_end j m q s.is_whole in
      omega arith

  same_ranges : (ps qs : List Placed) (q : ℕ) → q ≤ m → At q ps → At q qs → ps ≡ qs
  same_ranges [] [] q g a b = refl
  same_ranges [] (r ∷ rs) q g a b = absurd (none_at q r rs g a b)
  same_ranges (p ∷ ps) [] q g a b = absurd (none_at q p ps g b a)
  same_ranges (p ∷ ps) (r ∷ rs) q g a b =
      let s = first_at_lem q p ps g a in
      let t = first_at_lem q r rs g b in
      let e = whole_end j m q s.is_whole in
      let same : p ≡ r = ap₂ (λ (f : ℕ) (z : Range). record { file = f; range = z }) (sym s.file ∙ t.file) (sym s.range ∙ t.range) in
      ap₂ (λ (z : Placed) (zs : List Placed). z ∷ zs) same (same_ranges ps rs (behind j q) e (rest_at q p ps g a) (rest_at q r rs g b))

-- ---- the states

halved : (k : ℕ) → (i : ℕ) × ((k ≡ 2 * i) ⊎ (k ≡ 2 * i + 1))
halved zero = (0, inl refl)
halved (suc k) = let h = halved k in ⊎_elim (λ e. (h.0, inr (omega arith))) (λ e. (h.0 + 1, inl (omega arith))) h.1

same_states : (xs ys : List ℕ) → length xs ≡ 20 → length ys ≡ 20 → ((i : ℕ) → i < 10 → (get_or xs (2 * i) 0 ≡ get_or ys (2 * i) 0) × (get_or xs (2 * i + 1) 0 ≡ get_or ys (2 * i + 1) 0)) → xs ≡ ys
same_states xs ys k l each = sym (run_get_or xs 20 0 k) ∙ run_ext (λ i. get_or xs i 0) (λ i. get_or ys i 0) 0 20 (λ i a b. at i (omega arith) (halved i)) ∙ run_get_or ys 20 0 l
  where
    at : (k : ℕ) → k < 20 → (i : ℕ) × ((k ≡ 2 * i) ⊎ (k ≡ 2 * i + 1)) → get_or xs k 0 ≡ get_or ys k 0
    at k h s =
        let i = s.0 in
        ⊎_elim
        (λ (e : k ≡ 2 * i). ap (λ (n : ℕ). get_or xs n 0) e ∙ (each i (omega arith)).0 ∙ ap (λ (n : ℕ). get_or ys n 0) (sym e))
        (λ (e : k ≡ 2 * i + 1). ap (λ (n : ℕ). get_or xs n 0) e ∙ (each i (omega arith)).1 ∙ ap (λ (n : ℕ). get_or ys n 0) (sym e)) s.1

-- a hash of 32 bytes that says nothing
abbrev plain : List ℕ → List ℕ
plain xs = zeros 32

same_plain : (x y : Journal) → body x ≡ body y → journal_bytes plain x ≡ journal_bytes plain y
unfolding journal_bytes
same_plain x y e = ap (λ (z : List ℕ). z ++ zeros 32) e

module _ (x y : Journal) (v : WellFormed x) (w : WellFormed y) (e : journal_bytes plain x ≡ journal_bytes plain y) where
  states_alike : x.states ≡ y.states
  states_alike =
      same_states x.states y.states v.ten w.ten
      (λ i h. (
        sym (old_is plain x v i h) ∙ ap (λ (z : List ℕ). old_at z i) e ∙ old_is plain y w i h,
        sym (new_is plain x v i h) ∙ ap (λ (z : List ℕ). new_at z i) e ∙ new_is plain y w i h,
      ))

  ranges_alike : x.ranges ≡ y.ranges
  ranges_alike =
      let a = body_length_lem plain x v refl in
      let b = body_long plain x v in
      same_ranges (journal_bytes plain x) (body_length (journal_bytes plain x)) (omega arith) x.ranges y.ranges 184 (omega arith)
      (ranges_are plain x v refl, encodable x v)
      (ap (λ (z : List ℕ). part z 184 (body_length z - 184)) e ∙ ranges_are plain y w refl, encodable y w)

  alike : x ≡ y
  alike = ap₂ (λ (ss : List ℕ) (rs : List Placed). record { states = ss; ranges = rs }) states_alike ranges_alike

-- the own length shows the body, whatever F is
pub encoding_alone : UniqueForAll
encoding_alone F =
    record {
      alone = λ x y v w e. alike x y v w (same_plain x y (sym (body_taken F x v) ∙ ap (λ (z : List ℕ). take (own_length z - 32) z) e ∙ body_taken F y w));
    }
