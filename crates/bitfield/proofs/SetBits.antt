-- Bits set in any order, and what they are then. Assumes nothing.
use Prim.Native.Nat.{ℕ, zero, suc, ◌+◌, ◌-◌, ◌/◌, ◌%◌, ◌^◌, ◌≤◌, ◌<◌, max}
use mathlib.Core.Path.{◌≡◌, sym, ap, ap₂, ◌∙◌}
use mathlib.Core.Logic.{◌⊎◌, inl, inr, ⊎_elim}
use mathlib.Core.Bool.{true}
use mathlib.Core.List.{List}
use native.Mathlib.Nat.{one-mul, div-eq_of_lt}
use native.Mathlib.Decide.{dec_lt}
use native.Mathlib.Omega.{arith}
use borrow.Author.Tests.{eq-eqb}
use lib.Dec.{eqb}
use lib.Arith.{lt_of_le-ne}
use lib.Bits.{bit_or, or_step, or_shr}
use lib.Pow.{pow-add, pow-lt, shl-shr}
use lib.ListN.{length, get_or, set}
use lib.Seq.{set_comm, set-set, set_out, get_or-set_same, get_or-set_other}
use Rattle.bitfield.specs.Bits.{digit, bit_at, change_bit, with_digit, set_bit}
use Rattle.bitfield.proofs.Levels.{same_or}

-- ---- one digit

or_half : (a b : ℕ) → bit_or a b / 2 ≡ bit_or (a / 2) (b / 2)
or_half a b = or_shr a b 1

or_odd : (a b : ℕ) → bit_or a b % 2 ≡ max (a % 2) (b % 2)
or_odd a b = let e = or_step a b in omega arith

or_turn_below : (k a b c : ℕ) → a ≤ k → b ≤ k → c ≤ k → bit_or (bit_or a b) c ≡ bit_or (bit_or a c) b
or_turn_below zero a b c h l m =
    let p : b ≡ c = omega arith in ap₂ (λ (x y : ℕ). bit_or (bit_or a x) y) p (sym p)
or_turn_below (suc k) a b c h l m =
    let e = or_step (bit_or a b) c in
    let f = or_step (bit_or a c) b in
    let i : bit_or (bit_or (a / 2) (b / 2)) (c / 2) ≡ bit_or (bit_or (a / 2) (c / 2)) (b / 2) = or_turn_below k (a / 2) (b / 2) (c / 2) (omega arith) (omega arith) (omega arith) in
    let x : bit_or (bit_or a b / 2) (c / 2) ≡ bit_or (bit_or (a / 2) (b / 2)) (c / 2) = ap (λ (y : ℕ). bit_or y (c / 2)) (or_half a b) in
    let z : bit_or (bit_or a c / 2) (b / 2) ≡ bit_or (bit_or (a / 2) (c / 2)) (b / 2) = ap (λ (y : ℕ). bit_or y (b / 2)) (or_half a c) in
    omega (arith, or_odd a b, or_odd a c)

-- the order of two bits plays no part
or_turn : (a b c : ℕ) → bit_or (bit_or a b) c ≡ bit_or (bit_or a c) b
or_turn a b c = or_turn_below (a + b + c) a b c (omega arith) (omega arith) (omega arith)

-- a digit of a power of two
same_power : (r : ℕ) → 2 ^ r / 2 ^ r % 2 ≡ 1
same_power r = ap (λ (x : ℕ). x % 2) (ap (λ (x : ℕ). x / 2 ^ r) (sym (one-mul (2 ^ r))) ∙ shl-shr 1 r)

higher_power : (m s : ℕ) → 2 ^ (suc m + s) / 2 ^ s % 2 ≡ 0
higher_power m s =
    let e : 2 ^ (suc m + s) / 2 ^ s ≡ 2 ^ suc m = ap (λ (x : ℕ). x / 2 ^ s) (pow-add 2 (suc m) s) ∙ shl-shr (2 ^ suc m) s in omega arith

other_power : (r s : ℕ) → (s ≡ r → ⊥) → 2 ^ r / 2 ^ s % 2 ≡ 0
other_power r s h =
    elim (dec_lt r s) [
      | yes l ↦ ap (λ (x : ℕ). x % 2) (div-eq_of_lt (pow-lt l))
      | no l ↦
          let m : ℕ = r - suc s in
          let e : r ≡ suc m + s = lower r s h l in
          ap (λ (x : ℕ). 2 ^ x / 2 ^ s % 2) e ∙ higher_power m s
    ]
  where
    lower : (r s : ℕ) → (s ≡ r → ⊥) → (r < s → ⊥) → r ≡ suc (r - suc s) + s
    lower r s h l = let g : s < r = lt_of_le-ne (omega arith) h in omega arith

module _ (x r : ℕ) where
  split_digit : (s : ℕ) → digit (with_digit x r) s ≡ max (digit x s) (2 ^ r / 2 ^ s % 2)
  unfolding digit
  split_digit s = ap (λ (y : ℕ). y % 2) (or_shr x (2 ^ r) s) ∙ or_odd (x / 2 ^ s) (2 ^ r / 2 ^ s)

  digit_set : digit (with_digit x r) r ≡ 1
  unfolding digit
  digit_set = let e = split_digit r in let f = same_power r in omega arith

  digit_kept : (s : ℕ) → (s ≡ r → ⊥) → digit (with_digit x r) s ≡ digit x s
  digit_kept s h = let e = split_digit s in let f = other_power r s h in omega arith

-- ---- one bit

module _ (xs : List ℕ) (p b : ℕ) where
  pub bit_set : p + b / 8 < length xs → bit_at (set_bit xs p b) p b ≡ true
  unfolding bit_at change_bit
  bit_set h =
      ap (λ (y : ℕ). eqb (digit y (7 - b % 8)) 1) (get_or-set_same xs (p + b / 8) (with_digit (get_or xs (p + b / 8) 0) (7 - b % 8)) 0 h)
      ∙ eq-eqb _ 1 (digit_set (get_or xs (p + b / 8) 0) (7 - b % 8))

  -- any other bit stays
  pub bit_kept : (q c : ℕ) → (q + c / 8 ≡ p + b / 8 → c % 8 ≡ b % 8 → ⊥) → bit_at (set_bit xs p b) q c ≡ bit_at xs q c
  unfolding bit_at change_bit
  bit_kept q c h = ⊎_elim same (λ n. ap (λ (y : ℕ). eqb (digit y (7 - c % 8)) 1) (get_or-set_other xs (p + b / 8) (q + c / 8) _ 0 n)) (same_or (q + c / 8) (p + b / 8))
    where
      other : q + c / 8 ≡ p + b / 8 → 7 - c % 8 ≡ 7 - b % 8 → ⊥
      other e f = h e (omega arith)

      within : q + c / 8 ≡ p + b / 8 → Dec (p + b / 8 < length xs)
          → get_or (set xs (p + b / 8) (with_digit (get_or xs (p + b / 8) 0) (7 - b % 8))) (p + b / 8) 0 ≡ get_or xs (p + b / 8) 0
          ⊎ get_or (set xs (p + b / 8) (with_digit (get_or xs (p + b / 8) 0) (7 - b % 8))) (p + b / 8) 0 ≡ with_digit (get_or xs (p + b / 8) 0) (7 - b % 8)
      within e (yes l) = inr (get_or-set_same xs (p + b / 8) _ 0 l)
      within e (no l) = inl (ap (λ (ys : List ℕ). get_or ys (p + b / 8) 0) (set_out xs (p + b / 8) _ (omega arith)))

      same : q + c / 8 ≡ p + b / 8
          → eqb (digit (get_or (set xs (p + b / 8) (with_digit (get_or xs (p + b / 8) 0) (7 - b % 8))) (q + c / 8) 0) (7 - c % 8)) 1
          ≡ eqb (digit (get_or xs (q + c / 8) 0) (7 - c % 8)) 1
      same e =
          ap (λ (i : ℕ). eqb (digit (get_or (set xs (p + b / 8) (with_digit (get_or xs (p + b / 8) 0) (7 - b % 8))) i 0) (7 - c % 8)) 1) e
          ∙ ⊎_elim (λ f. ap (λ (y : ℕ). eqb (digit y (7 - c % 8)) 1) f)
          (λ f. ap (λ (y : ℕ). eqb (digit y (7 - c % 8)) 1) f ∙ ap (λ (y : ℕ). eqb y 1) (digit_kept (get_or xs (p + b / 8) 0) (7 - b % 8) (7 - c % 8) (other e)))
          (within e (dec_lt (p + b / 8) (length xs)))
          ∙ ap (λ (i : ℕ). eqb (digit (get_or xs i 0) (7 - c % 8)) 1) (sym e)

-- two bits set one after the other
pub bits_turn : (xs : List ℕ) (p b q c : ℕ) → set_bit (set_bit xs p b) q c ≡ set_bit (set_bit xs q c) p b
unfolding change_bit
bits_turn xs p b q c = ⊎_elim (turn_same (p + b / 8) (q + c / 8)) (turn_apart (p + b / 8) (q + c / 8)) (same_or (p + b / 8) (q + c / 8))
  where
    one : ℕ → ℕ → List ℕ → List ℕ
    one i r ys = set ys i (with_digit (get_or ys i 0) r)

    turn_apart : (i k : ℕ) → (i ≡ k → ⊥) → one k (7 - c % 8) (one i (7 - b % 8) xs) ≡ one i (7 - b % 8) (one k (7 - c % 8) xs)
    turn_apart i k n =
        ap (λ (y : ℕ). set (one i (7 - b % 8) xs) k (with_digit y (7 - c % 8))) (get_or-set_other xs i k _ 0 (λ e. n (sym e)))
        ∙ set_comm xs i k _ _ n
        ∙ ap (λ (y : ℕ). set (one k (7 - c % 8) xs) i (with_digit y (7 - b % 8))) (sym (get_or-set_other xs k i _ 0 n))

    inside : (i r s : ℕ) → i < length xs → one i s (one i r xs) ≡ set xs i (with_digit (with_digit (get_or xs i 0) r) s)
    inside i r s h =
        ap (λ (y : ℕ). set (one i r xs) i (with_digit y s)) (get_or-set_same xs i _ 0 h) ∙ set-set xs i _ _

    outside : (i r s : ℕ) → length xs ≤ i → one i s (one i r xs) ≡ xs
    outside i r s h = ap (one i s) (set_out xs i _ h) ∙ set_out xs i _ h

    at_one : (i r s : ℕ) → one i s (one i r xs) ≡ one i r (one i s xs)
    at_one i r s =
        elim (dec_lt i (length xs)) [
          | yes l ↦ inside i r s l ∙ ap (set xs i) (or_turn (get_or xs i 0) (2 ^ r) (2 ^ s)) ∙ sym (inside i s r l)
          | no l ↦ outside i r s (omega arith) ∙ sym (outside i s r (omega arith))
        ]

    turn_same : (i k : ℕ) → i ≡ k → one k (7 - c % 8) (one i (7 - b % 8) xs) ≡ one i (7 - b % 8) (one k (7 - c % 8) xs)
    turn_same i k e =
        ap (λ (j : ℕ). one j (7 - c % 8) (one i (7 - b % 8) xs)) (sym e) ∙ at_one i (7 - b % 8) (7 - c % 8)
        ∙ ap (λ (j : ℕ). one i (7 - b % 8) (one j (7 - c % 8) xs)) e
