-- What writing leaves, byte behind byte. Assumes nothing.
use Prim.Native.Nat.{ℕ, suc, ◌+◌, ◌-◌, ◌*◌, ◌/◌, ◌%◌, ◌^◌, ◌<◌, ◌≤◌}
use mathlib.Core.Path.{◌≡◌, refl, sym, ap, ◌∙◌, subst}
use mathlib.Core.List.{List, [], ◌∷◌, ◌++◌}
use mathlib.Core.Option.{some}
use native.Mathlib.Omega.{arith}
use lib.ListN.{length, set, take, drop, length-set, length-append}
use Rattle.byte_strings.specs.Lists.{part, put}
use Rattle.byte_strings.proofs.Lists.{put_nil, put_one, put_append, length_put}
use Rattle.record_fields.specs.Varints.{digits, varint, Fits}
use Rattle.record_fields.specs.Fields.{number_field, part_field}
use Rattle.record_fields.specs.Inner.{number_of, bytes_of, PutAt, Roomy, BytesRoomy}
use Rattle.record_fields.specs.declared.rows.Part.{Part}
use Rattle.std.specs.Prelude.{Option as Maybe, None, Some}
use Rattle.record_fields.proofs.Digits.{small, large, some_digits, above_last, fits_rest}
use Rattle.record_fields.proofs.Fields.{word_fits}
use Rattle.record_fields.proofs.Unique.{digits_size}

-- ---- how many bytes a number takes

pub some_length : (k x : ℕ) → 1 ≤ length (digits k x)
some_length k x = omega (arith, ap length (some_digits k x).2)

-- a number of 128 or more has a byte in front of the rest of it
module _ (k x : ℕ) (w : Fits k x) (h : 128 ≤ x) where
  pub longer : 1 ≤ k
  longer = omega (arith, (above_last k x w h).1)

  back : suc (k - 1) ≡ k
  back = omega (arith, longer)

  pub rest_fits : Fits (k - 1) (x / 128)
  rest_fits = fits_rest (k - 1) x (subst (λ (n : ℕ). Fits n x) (sym back) w)

  pub in_front : digits k x ≡ (128 + x % 128) ∷ digits (k - 1) (x / 128)
  in_front = ap (λ (n : ℕ). digits n x) (sym back) ∙ large (k - 1) x h

  pub length_more : (r : ℕ) → r ≡ length (digits (k - 1) (x / 128)) → 1 + r ≡ length (digits k x)
  length_more r e = omega (arith, e, ap length in_front)

pub length_last : (k x : ℕ) → x < 128 → 1 ≡ length (digits k x)
length_last k x h = sym (ap length (small k x h))

-- ---- a number put at a place

pub put_last : (k x : ℕ) (out : List ℕ) (at : ℕ) → x < 128 → Roomy k x out at → PutAt (digits k x) out at (at + 1) (set out at x)
put_last k x out at h w = record {
  ends = omega (arith, length_last k x h);
  holds = put_one out at x (omega (arith, w.room, some_length k x)) ∙ ap (put out at) (sym (small k x h));
}

pub put_room : (k x : ℕ) (out : List ℕ) (at b : ℕ) → 128 ≤ x → Roomy k x out at → Roomy (k - 1) (x / 128) (set out at b) (at + 1)
put_room k x out at b h w = record {
  fits = rest_fits k x w.fits h;
  room = simp length-set (omega (arith, w.room, length_more k x w.fits h (length (digits (k - 1) (x / 128))) refl));
}

pub put_more : (k x : ℕ) (out : List ℕ) (at next : ℕ) (after : List ℕ) → 128 ≤ x → Roomy k x out at
    → PutAt (digits (k - 1) (x / 128)) (set out at (128 + x % 128)) (at + 1) next after → PutAt (digits k x) out at next after
put_more k x out at next after h w p =
    let b : ℕ = 128 + x % 128 in
    let ds : List ℕ = digits (k - 1) (x / 128) in
    let inside : at < length out = omega (arith, w.room, some_length k x) in record {
      ends = omega (arith, p.ends, length_more k x w.fits h (length ds) refl);
      holds =
          p.holds ∙ ap (λ (l : List ℕ). put l (at + 1) ds) (put_one out at b inside) ∙ put_append out at (b ∷ []) ds (omega arith)
          ∙ ap (put out at) (sym (in_front k x w.fits h));
    }

pub put_same : (k x : ℕ) (out : List ℕ) (at b next : ℕ) (after : List ℕ) → 128 ≤ x → Roomy k x out at
    → PutAt (digits (k - 1) (x / 128)) (set out at b) (at + 1) next after → length after ≡ length out
put_same k x out at b next after h w p =
    ap length p.holds ∙ length_put (set out at b) (at + 1) (digits (k - 1) (x / 128)) (put_room k x out at b h w).room ∙ length-set out at b

-- ---- one behind the other

pub put_length : (bytes out : List ℕ) (at next : ℕ) (after : List ℕ) → at + length bytes ≤ length out → PutAt bytes out at next after → length after ≡ length out
put_length bytes out at next after h p = ap length p.holds ∙ length_put out at bytes h

pub put_then : (a b out : List ℕ) (at next end : ℕ) (mid after : List ℕ) → at ≤ length out → PutAt a out at next mid → PutAt b mid next end after
    → PutAt (a ++ b) out at end after
put_then a b out at next end mid after h p q = record {
  ends = omega (arith, p.ends, q.ends, length-append a b);
  holds =
      q.holds ∙ ap (λ (m : List ℕ). put m next b) p.holds ∙ ap (λ (n : ℕ). put (put out at a) n b) p.ends ∙ put_append out at a b h;
}

-- of bytes that are at most so many
pub put_next : (most : ℕ) (bytes out : List ℕ) (at next : ℕ) (after : List ℕ) → length bytes ≤ most → at + most ≤ length out → PutAt bytes out at next after
    → (next ≤ at + most) × (length after ≡ length out)
put_next most bytes out at next after l h p = (omega (arith, p.ends), put_length bytes out at next after (omega arith) p)

-- three, one behind the other
pub put_three : (a b c out : List ℕ) (at second third end : ℕ) (one two after : List ℕ) → at + length a ≤ length out → PutAt a out at second one
    → PutAt b one second third two → PutAt c two third end after → PutAt (a ++ (b ++ c)) out at end after
put_three a b c out at second third end one two after h p q r =
    put_then a (b ++ c) out at second end one after (omega arith) p
    (put_then b c one second third end two after (omega (arith, p.ends, put_length a out at second one h p)) q r)

pub put_nothing : (out : List ℕ) (at : ℕ) → PutAt [] out at at out
put_nothing out at = record { ends = omega arith; holds = sym (put_nil out at) }

pub put_byte : (out : List ℕ) (at b : ℕ) → at < length out → PutAt (b ∷ []) out at (at + 1) (set out at b)
put_byte out at b h = record { ends = refl; holds = put_one out at b h }

-- ---- a field that is a number

module _ (k : ℕ) (out : List ℕ) (at : ℕ) (field : Maybe ℕ) where
  pub number_absent : field ≡ None → PutAt (number_field k (number_of field)) out at at out
  unfolding number_field
  number_absent e = subst (λ (f : Maybe ℕ). PutAt (number_field k (number_of f)) out at at out) (sym e) (put_nothing out at)

  module _ (x : ℕ) (e : field ≡ Some x) (kind : k < 16) (room : at + 11 ≤ length out) where
    pub number_roomy : x < 2 ^ 64 → Roomy 9 x (set out at (8 * k)) (at + 1)
    number_roomy f = record { fits = word_fits x f; room = simp length-set (omega (arith, digits_size 9 x)) }

    pub number_put : (next : ℕ) (after : List ℕ) → PutAt (varint x) (set out at (8 * k)) (at + 1) next after → PutAt (number_field k (number_of field)) out at next after
    unfolding number_field
    number_put next after p =
        subst (λ (f : Maybe ℕ). PutAt (number_field k (number_of f)) out at next after) (sym e)
        (subst (λ (t : List ℕ). PutAt (t ++ varint x) out at next after) (sym (small 9 (8 * k) (omega arith)))
        (put_then ((8 * k) ∷ []) (varint x) out at (at + 1) next (set out at (8 * k)) after (omega arith) (put_byte out at (8 * k) (omega arith)) p))

-- ---- a field that is a part

module _ (k : ℕ) (out : List ℕ) (at : ℕ) (bytes : List ℕ) (kind : k < 16) (room : at + 11 + length bytes ≤ length out) (word : length bytes < 2 ^ 64) where
  pub part_roomy : Roomy 9 (length bytes) (set out at (8 * k + 2)) (at + 1)
  part_roomy = record { fits = word_fits (length bytes) word; room = simp length-set (omega (arith, digits_size 9 (length bytes))) }

  module _ (next : ℕ) (mid : List ℕ) (p : PutAt (varint (length bytes)) (set out at (8 * k + 2)) (at + 1) next mid) where
    pub part_next : next + length bytes ≤ length out
    part_next = omega (arith, p.ends, digits_size 9 (length bytes))

    pub mid_length : length mid ≡ length out
    mid_length =
        put_length (varint (length bytes)) (set out at (8 * k + 2)) (at + 1) next mid (simp length-set (omega (arith, digits_size 9 (length bytes)))) p
        ∙ length-set out at (8 * k + 2)

    pub part_room : next + length bytes ≤ length mid
    part_room = omega (arith, part_next, mid_length)

    pub part_put : (after : List ℕ) → after ≡ put mid next bytes → PutAt (part_field k (some bytes)) out at (next + length bytes) after
    unfolding part_field
    part_put after q =
        subst (λ (t : List ℕ). PutAt (t ++ (varint (length bytes) ++ bytes)) out at (next + length bytes) after) (sym (small 9 (8 * k + 2) (omega arith)))
        (put_then ((8 * k + 2) ∷ []) (varint (length bytes) ++ bytes) out at (at + 1) (next + length bytes) (set out at (8 * k + 2)) after (omega arith) (put_byte out at (8 * k + 2) (omega arith))
        (put_then (varint (length bytes)) bytes (set out at (8 * k + 2)) (at + 1) next (next + length bytes) mid after (simp length-set (omega arith)) p
        (record { ends = refl; holds = q })))

-- ---- a part of the bytes lent, or none

module _ (d : List ℕ) (field : Maybe Part) (k : ℕ) (out : List ℕ) (at : ℕ) (w : BytesRoomy d field k out at) where
  pub bytes_absent : field ≡ None → PutAt (part_field k (bytes_of d field)) out at at out
  unfolding part_field
  bytes_absent e = subst (λ (f : Maybe Part). PutAt (part_field k (bytes_of d f)) out at at out) (sym e) (put_nothing out at)

  module _ (q : Part) (e : field ≡ Some q) where
    taken : q.at + q.len - q.at ≡ q.len
    taken = omega arith

    pub given_put : (bytes : List ℕ) (next : ℕ) (after : List ℕ) → bytes ≡ take (q.at + q.len - q.at) (drop q.at d) → PutAt (part_field k (some bytes)) out at next after
        → PutAt (part_field k (bytes_of d field)) out at next after
    unfolding part
    given_put bytes next after b p =
        subst (λ (f : Maybe Part). PutAt (part_field k (bytes_of d f)) out at next after) (sym e)
        (subst (λ (t : List ℕ). PutAt (part_field k (some t)) out at next after) (b ∙ ap (λ (n : ℕ). take n (drop q.at d)) taken) p)
