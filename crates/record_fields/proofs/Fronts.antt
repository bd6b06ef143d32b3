-- The front of bytes that were written says what was written. Assumes nothing.
use Prim.Native.Nat.{ℕ, zero, suc, ◌+◌, ◌-◌, ◌*◌, ◌/◌, ◌%◌, ◌^◌, ◌<◌, ◌≤◌}
use mathlib.Core.Path.{◌≡◌, refl, ap, ◌∙◌}
use mathlib.Core.Bool.{false}
use mathlib.Core.Logic.{⊎_elim}
use mathlib.Core.List.{List, ◌∷◌, ◌++◌}
use mathlib.Core.Option.{Option, none, some}
use native.Mathlib.Omega.{arith}
use native.Mathlib.Nat.{div-add-mod}
use lib.Dec.{eqb}
use lib.ListN.{length, get_or, take, drop}
use lib.Seq.{take_at, drop_at}
use borrow.Author.Tests.{lt-ltb, le-ltb, eq-eqb, ne_eqb}
use Rattle.record_fields.specs.Varints.{digits, varint, Fits}
use Rattle.record_fields.specs.Fields.{number_field, part_field, Most, Later}
use Rattle.record_fields.specs.Fronts.{front_varint, front_number, front_bytes, front_part}
use Rattle.record_fields.proofs.Digits.{two, small, large, fits_rest}
use Rattle.record_fields.proofs.Fields.{number_tag, part_tag, word_fits}
use Rattle.record_fields.proofs.Unique.{Sized}

-- ---- varints

low_front : (b : ℕ) (s : List ℕ) → b < 128 → front_varint (b ∷ s) ≡ (b, s)
unfolding front_varint
low_front b s h = rw (lt-ltb b 128 h)

high_front : (b x : ℕ) (s t : List ℕ) → 128 ≤ b → front_varint s ≡ (x, t) → front_varint (b ∷ s) ≡ (b - 128 + 128 * x, t)
unfolding front_varint
high_front b x s t h e =
    rw (le-ltb b 128 h) (ap {B = ℕ × List ℕ} (λ (p : ℕ × List ℕ). (b - 128 + 128 * p.0, p.1)) e)

pub varint_front : (k x : ℕ) (t : List ℕ) → Fits k x → front_varint (digits k x ++ t) ≡ (x, t)
varint_front zero x t w =
    ap (λ (r : List ℕ). front_varint (r ++ t)) (small zero x w.digits) ∙ low_front x t w.digits
varint_front (suc k) x t w = ⊎_elim low (high (varint_front k (x / 128) t (fits_rest k x w))) (two x 128)
  where
    low : x < 128 → front_varint (digits (suc k) x ++ t) ≡ (x, t)
    low h = ap (λ (r : List ℕ). front_varint (r ++ t)) (small (suc k) x h) ∙ low_front x t h

    whole : 128 + x % 128 - 128 + 128 * (x / 128) ≡ x
    whole = omega (arith, div-add-mod x 128)

    high : front_varint (digits k (x / 128) ++ t) ≡ (x / 128, t) → 128 ≤ x → front_varint (digits (suc k) x ++ t) ≡ (x, t)
    high rest h =
        ap (λ (r : List ℕ). front_varint (r ++ t)) (large k x h)
        ∙ high_front (128 + x % 128) (x / 128) (digits k (x / 128) ++ t) t (omega arith) rest
        ∙ ap {B = ℕ × List ℕ} (λ (n : ℕ). (n, t)) whole

-- ---- fields

later_other : (k u : ℕ) (t : List ℕ) → u ≤ 8 * k + 7 → Later k t → eqb (get_or t 0 256) u ≡ false
later_other k u t h f = ne_eqb (get_or t 0 256) u (λ e. omega arith)

pub number_front : (k : ℕ) (o : Option ℕ) (t : List ℕ) → k < 16 → Most 18446744073709551615 o → Later k t → front_number k (number_field k o ++ t) ≡ (o, t)
unfolding number_field front_number
number_front k none t h w f = rw (later_other k (8 * k) t (omega arith) f)
number_front k (some x) t h w f =
    ap (λ (s : List ℕ). front_number k s) (number_tag k x t h) ∙ rw (eq-eqb (8 * k) (8 * k) refl)
    (ap {B = Option ℕ × List ℕ} (λ (p : ℕ × List ℕ). (some p.0, p.1)) (varint_front 9 x t (word_fits x (omega arith))))

bytes_front : (bs t : List ℕ) → length bs < 2 ^ 64 → front_bytes (varint (length bs) ++ (bs ++ t)) ≡ (bs, t)
unfolding front_bytes
bytes_front bs t h =
    ap {B = List ℕ × List ℕ} (λ (p : ℕ × List ℕ). (take p.0 p.1, drop p.0 p.1)) (varint_front 9 (length bs) (bs ++ t) (word_fits (length bs) h))
    ∙ ap {B = List ℕ × List ℕ} (λ (xs : List ℕ). (xs, drop (length bs) (bs ++ t))) (take_at bs t (length bs) refl)
    ∙ ap {B = List ℕ × List ℕ} (λ (xs : List ℕ). (bs, xs)) (drop_at bs t (length bs) refl)

pub given_front : (k : ℕ) (bs t : List ℕ) → k < 16 → length bs < 2 ^ 64 → front_part k (part_field k (some bs) ++ t) ≡ (some bs, t)
unfolding front_part
given_front k bs t h l =
    ap (λ (s : List ℕ). front_part k s) (part_tag k bs t h)
    ∙ rw (eq-eqb (8 * k + 2) (8 * k + 2) refl) (ap {B = Option (List ℕ) × List ℕ} (λ (p : List ℕ × List ℕ). (some p.0, p.1)) (bytes_front bs t l))

pub part_front : (k : ℕ) (o : Option (List ℕ)) (t : List ℕ) → k < 16 → Sized o → Later k t → front_part k (part_field k o ++ t) ≡ (o, t)
unfolding part_field front_part
part_front k none t h w f = rw (later_other k (8 * k + 2) t (omega arith) f)
part_front k (some bs) t h w f = given_front k bs t h w

pub part_absent : (k : ℕ) (s : List ℕ) → (get_or s 0 256 ≡ 8 * k + 2 → ⊥) → front_part k s ≡ (none, s)
unfolding front_part
part_absent k s n = rw (ne_eqb (get_or s 0 256) (8 * k + 2) n)
