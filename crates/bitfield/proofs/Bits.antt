-- Laws of bits in bytes. Assumes nothing.
use mathlib.Core.Path.{◌≡◌, refl, sym, ap, ◌∙◌, subst}
use mathlib.Core.Logic.{◌⊎◌, inl, inr, ⊎_elim}
use mathlib.Core.Bool.{Bool, true, false, not, ◌&&◌, ◌||◌}
use mathlib.Core.List.{List, [], ◌∷◌, ◌++◌}
use Prim.Native.Nat.{ℕ, zero, suc, ◌+◌, ◌-◌, ◌*◌, ◌/◌, ◌%◌, ◌^◌, ◌<◌, ◌≤◌}
use native.Mathlib.Nat.{add-zero, zero-add, add_assoc, suc-add, zero-mul, one-mul, le_trans, mul-le-mul_left, mod-le, mul-div-le}
use native.Mathlib.Omega.{arith}
use lib.Dec.{T, eqb, ltb, eqb→eq}
use lib.ListN.{length, get_or, set, get_or-append}
use lib.Seq.{set-append_left}
use lib.Pow.{pow_pos}
use lib.Bits.{bit_and}
use Rattle.std.proofs.lemmas.Nat.{and-not, and_comm}
use Rattle.std.proofs.lemmas.Nat.Bits.{and_pow}
use borrow.Author.Tests.{eqb-true, eqb-false, eq-eqb, ne_eqb, ltb-true, ltb-false}
use Rattle.byte_strings.specs.Lists.{part, Bytes}
use Rattle.byte_strings.proofs.Lists.{get_or_behind, get_d_part}
use Rattle.byte_strings.proofs.Bools.{cases}
use Rattle.bitfield.specs.Bits.{bit, byte_of, bytes_of, digit, bit_at, change_bit, with_digit, without_digit}

-- the bit number r of a byte, the first the highest
pub mask : (r : ℕ) → r < 8 → 128 / 2 ^ r ≡ 2 ^ (7 - r)
mask zero h = refl
mask (suc zero) h = refl
mask (suc (suc zero)) h = refl
mask (suc (suc (suc zero))) h = refl
mask (suc (suc (suc (suc zero)))) h = refl
mask (suc (suc (suc (suc (suc zero))))) h = refl
mask (suc (suc (suc (suc (suc (suc zero)))))) h = refl
mask (suc (suc (suc (suc (suc (suc (suc zero))))))) h = refl
mask (suc (suc (suc (suc (suc (suc (suc (suc r)))))))) h = absurd (over r h)
  where
    over : (r : ℕ) → suc (suc (suc (suc (suc (suc (suc (suc r))))))) < 8 → ⊥
    over r h = omega arith

pub positive : (r : ℕ) → r < 8 → 0 < 2 ^ (7 - r)
positive r h = pow_pos (7 - r)

-- a digit's share of a number is no more than it
pub digit_le : (x m : ℕ) → m * (x / m % 2) ≤ x
digit_le x m = le_trans (mul-le-mul_left m (mod-le (x / m) 2)) (mul-div-le x m)

-- a byte's digit as the code reads it, by the mask of the bit
pub read_digit : (x m r : ℕ) → m ≡ 2 ^ r → bit_and x m ≡ digit x r * m
unfolding digit
read_digit x m r e = ap (bit_and x) e ∙ and_pow x r ∙ ap (λ (t : ℕ). digit x r * t) (sym e)

-- whether the mask leaves anything is whether the digit is 1
left_of : (d m : ℕ) → d < 2 → 0 < m → not (eqb (d * m) 0) ≡ eqb d 1
left_of zero m h p = rw (zero-mul m) refl
left_of (suc zero) m h p = rw (one-mul m, ne_eqb m 0 (λ e. omega (arith, e))) refl
left_of (suc (suc d)) m h p = absurd (omega arith)

pub read_bit : (x m r : ℕ) → m ≡ 2 ^ r → 0 < m → not (eqb (bit_and x m) 0) ≡ eqb (digit x r) 1
unfolding digit
read_bit x m r e p = ap (λ (t : ℕ). not (eqb t 0)) (read_digit x m r e) ∙ left_of (x / 2 ^ r % 2) m (omega arith) p

-- and a byte without the bit, by the mask's complement
pub masked_off : (x m r : ℕ) → x < 256 → m ≡ 2 ^ r → m < 256 → bit_and x (255 - m) ≡ without_digit x r
unfolding digit
masked_off x m r h e l = omega (arith, and-not 8 m x l h, and_comm x (255 - m), and_comm m x, ap (bit_and x) e, and_pow x r)

-- ---- one byte: a test computed at every byte and every bit

abbrev byte8 : Bool → Bool → Bool → Bool → Bool → Bool → Bool → Bool → ℕ
byte8 a b c d e f g h = 128 * bit a + 64 * bit b + 32 * bit c + 16 * bit d + 8 * bit e + 4 * bit f + 2 * bit g + bit h

abbrev both : (Bool → Bool) → Bool
both f = f true && f false

abbrev below8 : (ℕ → Bool) → Bool
below8 f = f 0 && (f 1 && (f 2 && (f 3 && (f 4 && (f 5 && (f 6 && f 7))))))

and_left : (a b : Bool) → T (a && b) → T a
and_left true b t = tt
and_left false b t = t

and_right : (a b : Bool) → T (a && b) → T b
and_right true b t = t
and_right false b t = absurd t

both_at : (f : Bool → Bool) → T (both f) → (b : Bool) → T (f b)
both_at f t true = and_left (f true) (f false) t
both_at f t false = and_right (f true) (f false) t

below8_at : (f : ℕ → Bool) → T (below8 f) → (r : ℕ) → r < 8 → T (f r)
below8_at f t zero h = and_left (f 0) _ t
below8_at f t (suc zero) h = and_left (f 1) _ (and_right (f 0) _ t)
below8_at f t (suc (suc zero)) h = and_left (f 2) _ (and_right (f 1) _ (and_right (f 0) _ t))
below8_at f t (suc (suc (suc zero))) h = and_left (f 3) _ (and_right (f 2) _ (and_right (f 1) _ (and_right (f 0) _ t)))
below8_at f t (suc (suc (suc (suc zero)))) h = and_left (f 4) _ (and_right (f 3) _ (and_right (f 2) _ (and_right (f 1) _ (and_right (f 0) _ t))))
below8_at f t (suc (suc (suc (suc (suc zero))))) h = and_left (f 5) _ (and_right (f 4) _ (and_right (f 3) _ (and_right (f 2) _ (and_right (f 1) _ (and_right (f 0) _ t)))))
below8_at f t (suc (suc (suc (suc (suc (suc zero)))))) h = and_left (f 6) _ (and_right (f 5) _ (and_right (f 4) _ (and_right (f 3) _ (and_right (f 2) _ (and_right (f 1) _ (and_right (f 0) _ t))))))
below8_at f t (suc (suc (suc (suc (suc (suc (suc zero))))))) h =
    and_right (f 6) _ (and_right (f 5) _ (and_right (f 4) _ (and_right (f 3) _ (and_right (f 2) _ (and_right (f 1) _ (and_right (f 0) _ t))))))
below8_at f t (suc (suc (suc (suc (suc (suc (suc (suc r)))))))) h = absurd (over r h)
  where
    over : (r : ℕ) → suc (suc (suc (suc (suc (suc (suc (suc r))))))) < 8 → ⊥
    over r h = omega arith

-- what holds of every bit and of every eight bits is computed once
pub record Table (right : ℕ → Bool → Bool → Bool → Bool → Bool → Bool → Bool → Bool → Bool) : Type 0 where
  pub all : T (below8 (λ r. both (λ a. both (λ b. both (λ c. both (λ d. both (λ e. both (λ f. both (λ g. both (λ h. right r a b c d e f g h))))))))))

all_at : (right : ℕ → Bool → Bool → Bool → Bool → Bool → Bool → Bool → Bool → Bool) → Table right → (r : ℕ) → r < 8 → (a b c d e f g h : Bool) → T (right r a b c d e f g h)
all_at right t r l a b c d e f g h =
    both_at (λ h. right r a b c d e f g h) (both_at (λ g. both (λ h. right r a b c d e f g h))
    (both_at (λ f. both (λ g. both (λ h. right r a b c d e f g h)))
    (both_at (λ e. both (λ f. both (λ g. both (λ h. right r a b c d e f g h))))
    (both_at (λ d. both (λ e. both (λ f. both (λ g. both (λ h. right r a b c d e f g h)))))
    (both_at (λ c. both (λ d. both (λ e. both (λ f. both (λ g. both (λ h. right r a b c d e f g h))))))
    (both_at (λ b. both (λ c. both (λ d. both (λ e. both (λ f. both (λ g. both (λ h. right r a b c d e f g h)))))))
    (both_at (λ a. both (λ b. both (λ c. both (λ d. both (λ e. both (λ f. both (λ g. both (λ h. right r a b c d e f g h))))))))
    (below8_at (λ r. both (λ a. both (λ b. both (λ c. both (λ d. both (λ e. both (λ f. both (λ g. both (λ h. right r a b c d e f g h))))))))) t.all r l) a) b) c) d) e) f) g) h

set_right : ℕ → Bool → Bool → Bool → Bool → Bool → Bool → Bool → Bool → Bool
set_right r a b c d e f g h =
    eqb (with_digit (byte8 a b c d e f g h) (7 - r))
    (byte8 (a || eqb 0 r) (b || eqb 1 r) (c || eqb 2 r) (d || eqb 3 r) (e || eqb 4 r) (f || eqb 5 r) (g || eqb 6 r) (h || eqb 7 r))

set_table : Table set_right
unfolding set_right
set_table = record { all = tt }

-- p but for the number i
abbrev but : Bool → Bool → Bool
but p i = p && not i

clear_right : ℕ → Bool → Bool → Bool → Bool → Bool → Bool → Bool → Bool → Bool
clear_right r a b c d e f g h =
    eqb (without_digit (byte8 a b c d e f g h) (7 - r))
    (byte8 (but a (eqb 0 r)) (but b (eqb 1 r)) (but c (eqb 2 r)) (but d (eqb 3 r)) (but e (eqb 4 r)) (but f (eqb 5 r)) (but g (eqb 6 r)) (but h (eqb 7 r)))

clear_table : Table clear_right
unfolding clear_right digit
clear_table = record { all = tt }

-- the bit r of eight
abbrev nth : ℕ → Bool → Bool → Bool → Bool → Bool → Bool → Bool → Bool → Bool
nth r a b c d e f g h = get_or (a ∷ b ∷ c ∷ d ∷ e ∷ f ∷ g ∷ h ∷ []) r false

digit_right : ℕ → Bool → Bool → Bool → Bool → Bool → Bool → Bool → Bool → Bool
digit_right r a b c d e f g h = eqb (digit (byte8 a b c d e f g h) (7 - r)) (bit (nth r a b c d e f g h))

digit_table : Table digit_right
unfolding digit_right digit
digit_table = record { all = tt }

-- the same at any bit number
eqb_add : (b i r : ℕ) → eqb (b + i) (b + r) ≡ eqb i r
eqb_add b i r =
    ⊎_elim
    (λ e. eq-eqb (b + i) (b + r) (ap (λ (t : ℕ). b + t) (eqb-true i r e)) ∙ sym e)
    (λ e. ne_eqb (b + i) (b + r) (λ z. eqb-false i r e (omega (arith, z))) ∙ sym e)
    (cases (eqb i r))

eqb_base : (b r : ℕ) → eqb b (b + r) ≡ eqb 0 r
eqb_base b r = ap (λ (t : ℕ). eqb t (b + r)) (sym (add-zero b)) ∙ eqb_add b 0 r

or_of : (p : ℕ → Bool) (b r : ℕ) → r < 8 → with_digit (byte_of p b) (7 - r) ≡ byte_of (λ j. p j || eqb j (b + r)) b
unfolding byte_of set_right
or_of p b r h =
    eqb→eq _ _ (all_at set_right set_table r h (p b) (p (b + 1)) (p (b + 2)) (p (b + 3)) (p (b + 4)) (p (b + 5)) (p (b + 6)) (p (b + 7)))
    ∙ sym (simp (eqb_base, eqb_add))

but_of : (p : ℕ → Bool) (b r : ℕ) → r < 8 → without_digit (byte_of p b) (7 - r) ≡ byte_of (λ j. p j && not (eqb j (b + r))) b
unfolding byte_of clear_right
but_of p b r h =
    eqb→eq _ _ (all_at clear_right clear_table r h (p b) (p (b + 1)) (p (b + 2)) (p (b + 3)) (p (b + 4)) (p (b + 5)) (p (b + 6)) (p (b + 7)))
    ∙ sym (simp (eqb_base, eqb_add))

-- the digit r of the byte of a test is what the test says of its bit
eight_at : (p : ℕ → Bool) (b r : ℕ) → r < 8 → nth r (p b) (p (b + 1)) (p (b + 2)) (p (b + 3)) (p (b + 4)) (p (b + 5)) (p (b + 6)) (p (b + 7)) ≡ p (b + r)
eight_at p b zero h = ap p (sym (add-zero b))
eight_at p b (suc zero) h = refl
eight_at p b (suc (suc zero)) h = refl
eight_at p b (suc (suc (suc zero))) h = refl
eight_at p b (suc (suc (suc (suc zero)))) h = refl
eight_at p b (suc (suc (suc (suc (suc zero))))) h = refl
eight_at p b (suc (suc (suc (suc (suc (suc zero)))))) h = refl
eight_at p b (suc (suc (suc (suc (suc (suc (suc zero))))))) h = refl
eight_at p b (suc (suc (suc (suc (suc (suc (suc (suc r)))))))) h = absurd (over r h)
  where
    over : (r : ℕ) → suc (suc (suc (suc (suc (suc (suc (suc r))))))) < 8 → ⊥
    over r h = omega arith

pub digit_of : (p : ℕ → Bool) (b r : ℕ) → r < 8 → digit (byte_of p b) (7 - r) ≡ bit (p (b + r))
unfolding byte_of digit_right
digit_of p b r h =
    eqb→eq _ _ (all_at digit_right digit_table r h (p b) (p (b + 1)) (p (b + 2)) (p (b + 3)) (p (b + 4)) (p (b + 5)) (p (b + 6)) (p (b + 7)))
    ∙ ap bit (eight_at p b r h)

-- bytes of the same bits
byte_ext : (p q : ℕ → Bool) (b : ℕ) → ((j : ℕ) → b ≤ j → j < b + 8 → p j ≡ q j) → byte_of p b ≡ byte_of q b
unfolding byte_of
byte_ext p q b h =
    simp (
      h b (omega arith) (omega arith),
      h (b + 1) (omega arith) (omega arith),
      h (b + 2) (omega arith) (omega arith),
      h (b + 3) (omega arith) (omega arith),
      h (b + 4)
          (omega arith) (omega arith),
      h (b + 5) (omega arith) (omega arith),
      h (b + 6) (omega arith) (omega arith),
      h (b + 7) (omega arith) (omega arith),
    )

pub bytes_of_ext : (p q : ℕ → Bool) (b k : ℕ) → ((j : ℕ) → b ≤ j → j < b + 8 * k → p j ≡ q j) → bytes_of p b k ≡ bytes_of q b k
unfolding bytes_of
bytes_of_ext p q b zero h = refl
bytes_of_ext p q b (suc k) h =
    ap (λ (x : ℕ). x ∷ bytes_of p (b + 8) k) (byte_ext p q b (λ j l m. h j l (omega arith)))
    ∙ ap (λ (r : List ℕ). byte_of q b ∷ r) (bytes_of_ext p q (b + 8) k (λ j l m. h j (omega arith) (omega arith)))

pub length_bytes_of : (p : ℕ → Bool) (b k : ℕ) → length (bytes_of p b k) ≡ k
unfolding bytes_of
length_bytes_of p b zero = refl
length_bytes_of p b (suc k) = ap suc (length_bytes_of p (b + 8) k)

bit_le : (b : Bool) → bit b ≤ 1
bit_le true = omega arith
bit_le false = omega arith

byte_lt : (p : ℕ → Bool) (b : ℕ) → byte_of p b < 256
unfolding byte_of
byte_lt p b =
    omega (arith, bit_le (p b), bit_le (p (b + 1)), bit_le (p (b + 2)), bit_le (p (b + 3)), bit_le (p (b + 4)), bit_le (p (b + 5)), bit_le (p (b + 6)), bit_le (p (b + 7)))

pub bytes_bytes_of : (p : ℕ → Bool) (b k : ℕ) → Bytes (bytes_of p b k)
unfolding bytes_of
bytes_bytes_of p b zero i = omega arith
bytes_bytes_of p b (suc k) zero = byte_lt p b
bytes_bytes_of p b (suc k) (suc i) = bytes_bytes_of p (b + 8) k i

-- ---- a bit set in a list of bytes

set_append_add : (xs ys : List ℕ) (i v : ℕ) → set (xs ++ ys) (length xs + i) v ≡ xs ++ set ys i v
set_append_add [] ys i v = ap (λ (k : ℕ). set ys k v) (zero-add i)
set_append_add (x ∷ xs) ys i v = ap (λ (k : ℕ). set (x ∷ (xs ++ ys)) k v) (suc-add (length xs) i) ∙ ap (λ (r : List ℕ). x ∷ r) (set_append_add xs ys i v)

set_behind : (xs ys : List ℕ) (n i v : ℕ) → length xs ≡ n → set (xs ++ ys) (n + i) v ≡ xs ++ set ys i v
set_behind xs ys n i v e = subst (λ (k : ℕ). set (xs ++ ys) (k + i) v ≡ xs ++ set ys i v) e (set_append_add xs ys i v)

-- behind a list, and within the first of two
pub change_behind : (f : ℕ → ℕ → ℕ) (xs ys : List ℕ) (n p b : ℕ) → length xs ≡ n → change_bit f (xs ++ ys) (n + p) b ≡ xs ++ change_bit f ys p b
unfolding change_bit
change_behind f xs ys n p b e =
    let g : n + p + b / 8 ≡ n + (p + b / 8) = add_assoc n p (b / 8) in
    let h : get_or (xs ++ ys) (n + p + b / 8) 0 ≡ get_or ys (p + b / 8) 0 = ap (λ (i : ℕ). get_or (xs ++ ys) i 0) g ∙ get_or_behind xs ys n (p + b / 8) 0 e in
    ap (λ (v : ℕ). set (xs ++ ys) (n + p + b / 8) (f v (7 - b % 8))) h
    ∙ ap (λ (i : ℕ). set (xs ++ ys) i (f (get_or ys (p + b / 8) 0) (7 - b % 8))) g
    ∙ set_behind xs ys n (p + b / 8) (f (get_or ys (p + b / 8) 0) (7 - b % 8)) e

pub change_within : (f : ℕ → ℕ → ℕ) (xs ys : List ℕ) (p b : ℕ) → p + b / 8 < length xs → change_bit f (xs ++ ys) p b ≡ change_bit f xs p b ++ ys
unfolding change_bit
change_within f xs ys p b h =
    ap (λ (v : ℕ). set (xs ++ ys) (p + b / 8) (f v (7 - b % 8))) (get_or-append xs ys 0 (p + b / 8) h)
    ∙ set-append_left xs ys (p + b / 8) (f (get_or xs (p + b / 8) 0) (7 - b % 8)) h

change_head : (f : ℕ → ℕ → ℕ) (x : ℕ) (xs : List ℕ) (b : ℕ) → b < 8 → change_bit f (x ∷ xs) 0 b ≡ f x (7 - b) ∷ xs
unfolding change_bit
change_head f x xs b h =
    let e : 0 + b / 8 ≡ 0 = omega arith in
    let g : b % 8 ≡ b = omega arith in
    ap (λ (i : ℕ). set (x ∷ xs) i (f (get_or (x ∷ xs) i 0) (7 - b % 8))) e ∙ ap (λ (t : ℕ). f x (7 - t) ∷ xs) g

change_tail : (f : ℕ → ℕ → ℕ) (x : ℕ) (xs : List ℕ) (b : ℕ) → 8 ≤ b → change_bit f (x ∷ xs) 0 b ≡ x ∷ change_bit f xs 0 (b - 8)
unfolding change_bit
change_tail f x xs b h =
    let e : 0 + b / 8 ≡ suc (0 + (b - 8) / 8) = omega arith in
    let g : b % 8 ≡ (b - 8) % 8 = omega arith in
    ap (λ (i : ℕ). set (x ∷ xs) i (f (get_or (x ∷ xs) i 0) (7 - b % 8))) e
    ∙ ap (λ (t : ℕ). x ∷ set xs (0 + (b - 8) / 8) (f (get_or xs (0 + (b - 8) / 8) 0) (7 - t))) g

low_or_high : (b : ℕ) → (b < 8) ⊎ (8 ≤ b)
low_or_high b = ⊎_elim (λ e. inl (ltb-true b 8 e)) (λ e. inr (ltb-false b 8 e)) (cases (ltb b 8))

-- a change of one bit, and what it does to a test: of a byte it gives the byte of the changed test, and it leaves what the test says of other numbers
pub record Changes (f : ℕ → ℕ → ℕ) (to : (ℕ → Bool) → ℕ → ℕ → Bool) : Type 0 where
  pub byte : (p : ℕ → Bool) (b r : ℕ) → r < 8 → f (byte_of p b) (7 - r) ≡ byte_of (to p (b + r)) b
  pub other : (p : ℕ → Bool) (i j : ℕ) → (j ≡ i → ⊥) → p j ≡ to p i j

-- one law: changing bit number b of the bytes of p gives the bytes of the changed test
pub change_bytes_of : {f : ℕ → ℕ → ℕ} {to : (ℕ → Bool) → ℕ → ℕ → Bool} → Changes f to → (p : ℕ → Bool) (s k b : ℕ) → b < 8 * k
    → change_bit f (bytes_of p s k) 0 b ≡ bytes_of (to p (s + b)) s k
unfolding bytes_of
change_bytes_of {f} {to} w p s zero b h = absurd (none b h)
  where
    none : (b : ℕ) → b < 8 * zero → ⊥
    none b h = omega arith
change_bytes_of {f} {to} w p s (suc k) b h =
    ⊎_elim
    (λ l. change_head f (byte_of p s) (bytes_of p (s + 8) k) b l
    ∙ ap (λ (x : ℕ). x ∷ bytes_of p (s + 8) k) (w.byte p s b l)
    ∙ ap (λ (r : List ℕ). byte_of (to p (s + b)) s ∷ r)
    (bytes_of_ext p (to p (s + b)) (s + 8) k (λ j m n. w.other p (s + b) j (λ z. omega arith))))
    (λ l.
    let e : s + 8 + (b - 8) ≡ s + b = omega arith in
    change_tail f (byte_of p s) (bytes_of p (s + 8) k) b l
    ∙ ap (λ (r : List ℕ). byte_of p s ∷ r) (change_bytes_of w p (s + 8) k (b - 8) (omega arith) ∙ ap (λ (t : ℕ). bytes_of (to p t) (s + 8) k) e)
    ∙ ap (λ (x : ℕ). x ∷ bytes_of (to p (s + b)) (s + 8) k) (byte_ext p (to p (s + b)) s (λ j m n. w.other p (s + b) j (λ z. omega arith))))
    (low_or_high b)

-- ---- a bit set, and a bit cleared

abbrev pub with_one_lem : (ℕ → Bool) → ℕ → ℕ → Bool
with_one_lem p i j = p j || eqb j i

abbrev pub without_one : (ℕ → Bool) → ℕ → ℕ → Bool
without_one p i j = p j && not (eqb j i)

or_false : (a b : Bool) → b ≡ false → a ≡ (a || b)
or_false true b e = refl
or_false false b e = sym e

and_true : (a b : Bool) → b ≡ false → a ≡ (a && not b)
and_true true b e = sym (ap not e)
and_true false b e = refl

pub sets : Changes with_digit with_one_lem
sets = record { byte = or_of; other = λ p i j h. or_false (p j) (eqb j i) (ne_eqb j i h) }

pub clears : Changes without_digit without_one
clears = record { byte = but_of; other = λ p i j h. and_true (p j) (eqb j i) (ne_eqb j i h) }

-- ---- a bit read

bit_eqb : (b : Bool) → eqb (bit b) 1 ≡ b
bit_eqb true = refl
bit_eqb false = refl

pub get_or_bytes_of : (p : ℕ → Bool) (s k j : ℕ) → j < k → get_or (bytes_of p s k) j 0 ≡ byte_of p (s + 8 * j)
unfolding bytes_of
get_or_bytes_of p s zero j h = absurd (omega arith)
get_or_bytes_of p s (suc k) zero h = ap (byte_of p) (sym (add-zero s))
get_or_bytes_of p s (suc k) (suc j) h = get_or_bytes_of p (s + 8) k j (omega arith) ∙ ap (byte_of p) (omega arith)

-- the bits of a test are read back from its bytes
pub bit_bytes_of : (p : ℕ → Bool) (s k b : ℕ) → b < 8 * k → bit_at (bytes_of p s k) 0 b ≡ p (s + b)
unfolding bit_at
bit_bytes_of p s k b h =
    let e : s + 8 * (0 + b / 8) + b % 8 ≡ s + b = omega arith in
    ap (λ (x : ℕ). eqb (digit x (7 - b % 8)) 1) (get_or_bytes_of p s k (0 + b / 8) (omega arith))
    ∙ ap (λ (x : ℕ). eqb x 1) (digit_of p (s + 8 * (0 + b / 8)) (b % 8) (omega arith))
    ∙ bit_eqb (p (s + 8 * (0 + b / 8) + b % 8)) ∙ ap p e

pub bit_part : (xs : List ℕ) (p m b : ℕ) → b < 8 * m → bit_at xs p b ≡ bit_at (part xs p m) 0 b
unfolding bit_at
bit_part xs p m b h =
    ap (λ (x : ℕ). eqb (digit x (7 - b % 8)) 1)
    (sym (ap (λ (i : ℕ). get_or (part xs p m) i 0) (zero-add (b / 8)) ∙ get_d_part xs p m (b / 8) 0 (omega arith)))
