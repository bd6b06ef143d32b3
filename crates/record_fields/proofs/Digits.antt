-- Laws of varints: which bytes are the shortest form of a number, and that no two numbers share it. Assumes nothing.
use Prim.Native.Nat.{ℕ, zero, suc, ◌+◌, ◌-◌, ◌*◌, ◌/◌, ◌%◌, ◌^◌, ◌<◌, ◌≤◌}
use mathlib.Core.Path.{◌≡◌, refl, sym, ap, ◌∙◌, subst}
use mathlib.Core.Bool.{Bool, true, false}
use mathlib.Core.Logic.{◌⊎◌, inl, inr, ⊎_elim}
use mathlib.Core.List.{List, [], ◌∷◌, ◌++◌}
use native.Mathlib.Omega.{arith}
use native.Mathlib.Nat.{pow-suc, div-lt_iff_lt-mul, div-add-mod}
use lib.Dec.{ltb, lit<}
use lib.Arith.{digits_lt, digits_div, digits_mod}
use borrow.Author.Tests.{ltb-true, ltb-false, lt-ltb, le-ltb}
use Rattle.record_fields.specs.Varints.{digits, Fits}
use Rattle.record_fields.specs.Reading.{Begins, BeginsNot, Any}

-- ---- small things

pub two : (a b : ℕ) → (a < b) ⊎ (b ≤ a)
two a b = go (ltb a b) refl
  where
    go : (t : Bool) → ltb a b ≡ t → (a < b) ⊎ (b ≤ a)
    go true e = inl (ltb-true a b e)
    go false e = inr (ltb-false a b e)

pub nil_cons : {x : ℕ} {t : List ℕ} → [] ≡ x ∷ t → ⊥
nil_cons e = let z : ◌≡◌ {A = ℕ} 0 1 = cc in omega arith

pub head_eq : {x y : ℕ} {s t : List ℕ} → x ∷ s ≡ y ∷ t → x ≡ y
head_eq e = cc

pub tail_eq : {x y : ℕ} {s t : List ℕ} → x ∷ s ≡ y ∷ t → s ≡ t
tail_eq e = cc

-- ---- the bytes

pub small : (k x : ℕ) → x < 128 → digits k x ≡ x ∷ []
unfolding digits
small zero x h = refl
small (suc k) x h = rw (lt-ltb x 128 h)

pub large : (k x : ℕ) → 128 ≤ x → digits (suc k) x ≡ (128 + x % 128) ∷ digits k (x / 128)
unfolding digits
large k x h = rw (le-ltb x 128 h)

pub some_digits : (k x : ℕ) → (h : ℕ) × (t : List ℕ) × (digits k x ≡ h ∷ t)
unfolding digits
some_digits zero x = (x, [], refl)
some_digits (suc k) x = ⊎_elim (λ h. (x, [], small (suc k) x h)) (λ h. (128 + x % 128, digits k (x / 128), large k x h)) (two x 128)

-- ---- at the end of the bytes nothing stands

pub end_none : (k : ℕ) → BeginsNot (digits k) (Fits k) Any []
end_none k x t w f e = nil_cons (e ∙ ap (λ (r : List ℕ). r ++ t) (some_digits k x).2)

-- ---- the last byte

some_bytes : (k : ℕ) → 1 ≤ 128 ^ k
some_bytes zero = omega arith
some_bytes (suc k) = rw pow-suc (omega (arith, some_bytes k))

one_fits : (k x : ℕ) → x < 128 → Fits k x
one_fits k x h = record { digits = rw pow-suc (omega (arith, some_bytes k)); word = omega arith }

pub above_last : (k x : ℕ) → Fits k x → 128 ≤ x → (j : ℕ) × (k ≡ suc j)
above_last zero x w h = absurd (omega (arith, w.digits))
above_last (suc j) x w h = (j, refl)

-- a byte below 128 is a number, and no other number begins with it
pub last_read : (k b : ℕ) (s : List ℕ) → b < 128 → Begins (digits k) (Fits k) Any (b ∷ s) b s
last_read k b s h = record { made = sym (ap (λ (r : List ℕ). r ++ s) (small k b h)); within = one_fits k b h; only = λ x t w f e. ⊎_elim (low x t e) (high x t w e) (two x 128) }
  where
    low : (x : ℕ) (t : List ℕ) → b ∷ s ≡ digits k x ++ t → x < 128 → (x ≡ b) × (t ≡ s)
    low x t e l =
        let p : b ∷ s ≡ x ∷ t = e ∙ ap (λ (r : List ℕ). r ++ t) (small k x l) in
        (sym (head_eq p), sym (tail_eq p))

    high : (x : ℕ) (t : List ℕ) → Fits k x → b ∷ s ≡ digits k x ++ t → 128 ≤ x → (x ≡ b) × (t ≡ s)
    high x t w e g =
        let j = above_last k x w g in
        let p : b ∷ s ≡ (128 + x % 128) ∷ (digits j.0 (x / 128) ++ t) = e ∙ ap (λ (n : ℕ). digits n x ++ t) j.1 ∙ ap (λ (r : List ℕ). r ++ t) (large j.0 x g) in
        absurd (omega (arith, head_eq p))

-- a byte of 128 or more is no last one
pub last_not : (b : ℕ) (s : List ℕ) → 128 ≤ b → BeginsNot (digits zero) (Fits zero) Any (b ∷ s)
unfolding digits
last_not b s h x t w f e = omega (arith, head_eq e, w.digits)

-- ---- a byte behind which more follow

pub fits_rest : (k x : ℕ) → Fits (suc k) x → Fits k (x / 128)
fits_rest k x w = record {
  digits = (div-lt_iff_lt-mul {k = 128} {x = x} {y = 128 ^ suc k} (lit< tt)).1 (subst (λ (n : ℕ). x < n) (pow-suc 128 (suc k)) w.digits);
  word = omega (arith, w.word);
}

-- the number x whose bytes are b and those of the number that b leaves
pub record Opened (k b : ℕ) (s : List ℕ) (x : ℕ) (t : List ℕ) : Type 0 where
  pub rest : s ≡ digits k (x / 128) ++ t
  pub fits : Fits k (x / 128)
  pub some : 1 ≤ x / 128
  pub whole : x ≡ b - 128 + 128 * (x / 128)

pub opened : (k b : ℕ) (s : List ℕ) (x : ℕ) (t : List ℕ) → 128 ≤ b → Fits (suc k) x → b ∷ s ≡ digits (suc k) x ++ t → Opened k b s x t
opened k b s x t h w e = ⊎_elim low high (two x 128)
  where
    low : x < 128 → Opened k b s x t
    low l = absurd (omega (arith, head_eq (e ∙ ap (λ (r : List ℕ). r ++ t) (small (suc k) x l))))

    high : 128 ≤ x → Opened k b s x t
    high g =
        let p : b ∷ s ≡ (128 + x % 128) ∷ (digits k (x / 128) ++ t) = e ∙ ap (λ (r : List ℕ). r ++ t) (large k x g) in
        let q : b ≡ 128 + x % 128 = head_eq p in record {
          rest = tail_eq p;
          fits = fits_rest k x w;
          some = omega arith;
          whole = omega (arith, q, div-add-mod x 128);
        }

-- where no number follows
pub more_not : (k b : ℕ) (s : List ℕ) → 128 ≤ b → BeginsNot (digits k) (Fits k) Any s → BeginsNot (digits (suc k)) (Fits (suc k)) Any (b ∷ s)
more_not k b s h n x t w f e =
    let o = opened k b s x t h w e in
    n (x / 128) t o.fits tt o.rest

-- where 0 follows, which makes the form no shortest one
pub more_zero : (k b : ℕ) (s : List ℕ) (rest : List ℕ) → 128 ≤ b → Begins (digits k) (Fits k) Any s 0 rest → BeginsNot (digits (suc k)) (Fits (suc k)) Any (b ∷ s)
more_zero k b s rest h g x t w f e =
    let o = opened k b s x t h w e in
    omega (arith, o.some, (g.only (x / 128) t o.fits tt o.rest).0)

-- where so large a number follows that the whole isn't below 2^64
pub more_large : (k b : ℕ) (s : List ℕ) (y : ℕ) (rest : List ℕ) → 128 ≤ b → 144115188075855872 ≤ y → Begins (digits k) (Fits k) Any s y rest
    → BeginsNot (digits (suc k)) (Fits (suc k)) Any (b ∷ s)
more_large k b s y rest h l g x t w f e =
    let o = opened k b s x t h w e in
    omega (arith, o.whole, w.word, (g.only (x / 128) t o.fits tt o.rest).0)

-- where another number follows
pub more_read : (k b : ℕ) (s : List ℕ) (y : ℕ) (rest : List ℕ) → 128 ≤ b → b < 256 → 1 ≤ y → y < 144115188075855872 → Begins (digits k) (Fits k) Any s y rest
    → Begins (digits (suc k)) (Fits (suc k)) Any (b ∷ s) (b - 128 + 128 * y) rest
more_read k b s y rest h l p q g =
    record { made = made; within = within; only = λ x t w f e. (number x t w e, (g.only (x / 128) t (opened k b s x t h w e).fits tt (opened k b s x t h w e).rest).1) }
  where
    whole : b - 128 + 128 * y ≡ y * 128 + (b - 128)
    whole = omega arith

    quotient : (b - 128 + 128 * y) / 128 ≡ y
    quotient = ap (λ (n : ℕ). n / 128) whole ∙ digits_div y {m = 128} {r = b - 128} (omega arith)

    remainder : (b - 128 + 128 * y) % 128 ≡ b - 128
    remainder = ap (λ (n : ℕ). n % 128) whole ∙ digits_mod y {m = 128} {r = b - 128} (omega arith)

    first : 128 + (b - 128 + 128 * y) % 128 ≡ b
    first = omega (arith, remainder)

    bytes : digits (suc k) (b - 128 + 128 * y) ≡ b ∷ digits k y
    bytes = large k (b - 128 + 128 * y) (omega arith) ∙ ap (λ (n : ℕ). n ∷ digits k ((b - 128 + 128 * y) / 128)) first ∙ ap (λ (n : ℕ). b ∷ digits k n) quotient

    made : b ∷ s ≡ digits (suc k) (b - 128 + 128 * y) ++ rest
    made = ap (λ (r : List ℕ). b ∷ r) g.made ∙ sym (ap (λ (r : List ℕ). r ++ rest) bytes)

    within : Fits (suc k) (b - 128 + 128 * y)
    within = record {
      digits = subst (λ (n : ℕ). b - 128 + 128 * y < n) (sym (pow-suc 128 (suc k))) (subst (λ (n : ℕ). n < 128 ^ suc k * 128) (sym whole) (digits_lt g.within.digits (omega arith)));
      word = omega arith;
    }

    number : (x : ℕ) (t : List ℕ) → Fits (suc k) x → b ∷ s ≡ digits (suc k) x ++ t → x ≡ b - 128 + 128 * y
    number x t w e =
        let o = opened k b s x t h w e in
        omega (arith, o.whole, (g.only (x / 128) t o.fits tt o.rest).0)
