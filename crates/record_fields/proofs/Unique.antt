-- No two numbers, and no two fields, have the same bytes; how many bytes they take at most. Assumes nothing.
use Prim.Native.Nat.{ℕ, zero, suc, ◌+◌, ◌*◌, ◌/◌, ◌%◌, ◌^◌, ◌<◌, ◌≤◌}
use mathlib.Core.Path.{◌≡◌, refl, sym, ap, ◌∙◌}
use mathlib.Core.Logic.{⊎_elim}
use mathlib.Core.List.{List, ◌∷◌, ◌++◌}
use mathlib.Core.Option.{Option, none, some}
use native.Mathlib.Omega.{arith}
use lib.ListN.{length, take, drop, length-append}
use lib.Seq.{take_at, drop_at}
use Rattle.record_fields.specs.Varints.{digits, varint, Fits}
use Rattle.record_fields.specs.Fields.{number_field, part_field, Most, Longest, Later}
use Rattle.record_fields.proofs.Digits.{two, small, large, tail_eq, last_read, opened}
use Rattle.record_fields.proofs.Fields.{number_tag, part_tag, word_fits, later_tag}

-- ---- varints

pub digits_unique : (k x y : ℕ) (s t : List ℕ) → Fits k x → Fits k y → digits k x ++ s ≡ digits k y ++ t → (x ≡ y) × (s ≡ t)
digits_unique zero x y s t v w e =
    let q = (last_read zero x s v.digits).only y t w tt (sym (ap (λ (r : List ℕ). r ++ s) (small zero x v.digits)) ∙ e) in
    (sym q.0, sym q.1)
digits_unique (suc k) x y s t v w e = ⊎_elim low (high (λ v' w' e'. digits_unique k (x / 128) (y / 128) s t v' w' e')) (two x 128)
  where
    low : x < 128 → (x ≡ y) × (s ≡ t)
    low l =
        let q = (last_read (suc k) x s l).only y t w tt (sym (ap (λ (r : List ℕ). r ++ s) (small (suc k) x l)) ∙ e) in
        (sym q.0, sym q.1)

    high : (Fits k (x / 128) → Fits k (y / 128) → digits k (x / 128) ++ s ≡ digits k (y / 128) ++ t → (x / 128 ≡ y / 128) × (s ≡ t)) → 128 ≤ x → (x ≡ y) × (s ≡ t)
    high below g =
        let p : (128 + x % 128) ∷ (digits k (x / 128) ++ s) ≡ digits (suc k) y ++ t = sym (ap (λ (r : List ℕ). r ++ s) (large k x g)) ∙ e in
        let o = opened k (128 + x % 128) (digits k (x / 128) ++ s) y t (omega arith) w p in
        let m = opened k (128 + x % 128) (digits k (x / 128) ++ s) x s (omega arith) v (sym (ap (λ (r : List ℕ). r ++ s) (large k x g))) in
        let q = below m.fits o.fits o.rest in
        (omega (arith, o.whole, m.whole, q.0), q.1)

-- ---- fields

pub number_unique : (k : ℕ) (o p : Option ℕ) (s t : List ℕ) → k < 16 → Most 18446744073709551615 o → Most 18446744073709551615 p → Later k s → Later k t
    → number_field k o ++ s ≡ number_field k p ++ t → (o ≡ p) × (s ≡ t)
unfolding number_field
number_unique k none none s t h v w f g e = (refl, e)
number_unique k none (some y) s t h v w f g e = absurd (later_tag k (8 * k) (varint y ++ t) s (omega arith) f (sym (e ∙ number_tag k y t h)))
number_unique k (some x) none s t h v w f g e = absurd (later_tag k (8 * k) (varint x ++ s) t (omega arith) g (sym (number_tag k x s h) ∙ e))
number_unique k (some x) (some y) s t h v w f g e =
    let q = digits_unique 9 x y s t (word_fits x (omega arith)) (word_fits y (omega arith)) (tail_eq (sym (number_tag k x s h) ∙ e ∙ number_tag k y t h)) in
    (ap {B = Option ℕ} some q.0, q.1)

-- two parts of which each is followed by anything
pub given_unique : (k : ℕ) (b c s t : List ℕ) → k < 16 → length b < 2 ^ 64 → length c < 2 ^ 64 → part_field k (some b) ++ s ≡ part_field k (some c) ++ t → (b ≡ c) × (s ≡ t)
given_unique k b c s t h v w e =
    let p = tail_eq (sym (part_tag k b s h) ∙ e ∙ part_tag k c t h) in
    let q = digits_unique 9 (length b) (length c) (b ++ s) (c ++ t) (word_fits (length b) v) (word_fits (length c) w) p in (
      sym (take_at b s (length c) q.0) ∙ ap (take (length c)) q.1 ∙ take_at c t (length c) refl,
      sym (drop_at b s (length c) q.0) ∙ ap (drop (length c)) q.1 ∙ drop_at c t (length c) refl,
    )

-- a part that is absent, or short enough for its length
abbrev pub Sized : Option (List ℕ) → Type 0
Sized none = Unit {0}
Sized (some b) = length b < 2 ^ 64

pub part_unique : (k : ℕ) (o p : Option (List ℕ)) (s t : List ℕ) → k < 16 → Sized o → Sized p → Later k s → Later k t
    → part_field k o ++ s ≡ part_field k p ++ t → (o ≡ p) × (s ≡ t)
unfolding part_field
part_unique k none none s t h v w f g e = (refl, e)
part_unique k none (some c) s t h v w f g e = absurd (later_tag k (8 * k + 2) (varint (length c) ++ (c ++ t)) s (omega arith) f (sym (e ∙ part_tag k c t h)))
part_unique k (some b) none s t h v w f g e = absurd (later_tag k (8 * k + 2) (varint (length b) ++ (b ++ s)) t (omega arith) g (sym (part_tag k b s h) ∙ e))
part_unique k (some b) (some c) s t h v w f g e =
    let q = given_unique k b c s t h v w e in
    (ap {B = Option (List ℕ)} some q.0, q.1)

pub longest_sized : (n : ℕ) (o : Option (List ℕ)) → n < 2 ^ 64 → Longest n o → Sized o
longest_sized n none h l = tt
longest_sized n (some b) h l = omega arith

-- ---- lengths: how many bytes a field takes at most

pub digits_size : (k x : ℕ) → length (digits k x) ≤ suc k
unfolding digits
digits_size zero x = omega arith
digits_size (suc k) x = ⊎_elim
    (λ (h : x < 128). omega (arith, ap length (small (suc k) x h)))
    (λ (h : 128 ≤ x). omega (arith, ap length (large k x h), digits_size k (x / 128)))
    (two x 128)

pub number_size : (k : ℕ) (o : Option ℕ) → k < 16 → length (number_field k o) ≤ 11
unfolding number_field
number_size k none h = omega arith
number_size k (some x) h = omega (arith, length-append (varint (8 * k)) (varint x), ap length (small 9 (8 * k) (omega arith)), digits_size 9 x)

pub part_size : (k : ℕ) (b : List ℕ) → k < 16 → length (part_field k (some b)) ≤ 11 + length b
unfolding part_field
part_size k b h =
    omega (arith, length-append (varint (8 * k + 2)) (varint (length b) ++ b), length-append (varint (length b)) b, ap length (small 9 (8 * k + 2) (omega arith)), digits_size 9 (length b))

pub part_within : (k n : ℕ) (o : Option (List ℕ)) → k < 16 → Longest n o → length (part_field k o) ≤ 11 + n
unfolding part_field
part_within k n none h l = omega arith
part_within k n (some b) h l = omega (arith, part_size k b h)
