-- What the readers find at a place, from what stands there. Assumes nothing.
use Prim.Native.Nat.{ℕ, zero, suc, ◌+◌, ◌-◌, ◌*◌, ◌^◌, ◌<◌, ◌≤◌}
use mathlib.Core.Path.{◌≡◌, refl, sym, ap, ◌∙◌, subst}
use mathlib.Core.Bool.{Bool, true, false, cond}
use mathlib.Core.List.{List, ◌∷◌}
use mathlib.Core.Option.{none, some}
use native.Mathlib.Omega.{arith}
use native.Mathlib.Numerals.{add-one}
use lib.Dec.{ltb}
use lib.ListN.{length, get_or, take, drop, length-drop, drop_of_length-le}
use lib.Seq.{drop-cons, drop-drop}
use borrow.Author.Tests.{ltb-true, ltb-false, lt-ltb, le-ltb}
use Rattle.byte_strings.specs.Lists.{part}
use Rattle.record_fields.specs.Varints.{digits, Fits}
use Rattle.record_fields.specs.Reading.{Begins, BeginsNot, Any}
use Rattle.record_fields.specs.Fields.{number_field, part_field, Most, Longest, Later}
use Rattle.record_fields.specs.Inner.{read_to, DigitsRead, joined_of, NumberRead, NoPart, BytesRead}
use Rattle.record_fields.specs.declared.varints.Read.{Read}
use Rattle.record_fields.specs.declared.rows.Part.{Part}
use Rattle.std.specs.Prelude.{Option as Maybe, None, Some}
use Rattle.record_fields.proofs.Digits.{end_none, last_read, last_not, more_not, more_zero, more_large, more_read}
use Rattle.record_fields.proofs.Fields.{number_end, number_other, number_bad, number_over, number_given, part_end, part_other, part_bad, part_over, part_short, part_given}

-- the byte at a place, and those behind it
front : (d : List ℕ) (at b : ℕ) → at < length d → b ≡ get_or d at 0 → drop at d ≡ b ∷ drop (at + 1) d
front d at b h e =
    drop-cons d at 0 h ∙ ap (λ (x : ℕ). x ∷ drop (suc at) d) (sym e) ∙ ap (λ (n : ℕ). b ∷ drop n d) (sym (add-one at))

-- ---- a varint and the rest of it

pub joined_is : (low rest next : ℕ) (high : Maybe (Read ℕ)) → high ≡ read_to rest next → (rest ≡ 0 → ⊥) → rest < 144115188075855872 → read_to (low + 128 * rest) next ≡ joined_of low high
joined_is low rest next high e n l =
    sym (ap (joined_of low) e ∙ rw (lt-ltb 0 rest (omega arith), lt-ltb rest 144115188075855872 l))

pub joined_zero : (low rest next : ℕ) (high : Maybe (Read ℕ)) → high ≡ read_to rest next → rest ≡ 0 → None ≡ joined_of low high
joined_zero low rest next high e z = sym (ap (joined_of low) e ∙ rw (le-ltb 0 rest (omega arith)))

pub joined_large : (low rest next : ℕ) (high : Maybe (Read ℕ)) → high ≡ read_to rest next → (rest ≡ 0 → ⊥) → 144115188075855872 ≤ rest → None ≡ joined_of low high
joined_large low rest next high e n l =
    sym (ap (joined_of low) e ∙ rw (lt-ltb 0 rest (omega arith), le-ltb rest 144115188075855872 l))

-- ---- varints

pub digits_end : (d : List ℕ) (k at : ℕ) → length d ≤ at → DigitsRead d k at None
digits_end d k at h = subst (BeginsNot (digits k) (Fits k) Any) (sym (drop_of_length-le d h)) (end_none k)

pub digits_last : (d : List ℕ) (k at low : ℕ) → at < length d → low ≡ get_or d at 0 → low < 128 → DigitsRead d k at (read_to low (at + 1))
digits_last d k at low h e l = record {
  begins = subst (λ (s : List ℕ). Begins (digits k) (Fits k) Any s low (drop (at + 1) d)) (sym (front d at low h e)) (last_read k low (drop (at + 1) d) l);
  inside = omega arith;
}

pub digits_none : (d : List ℕ) (k at low : ℕ) → at < length d → low ≡ get_or d at 0 → 128 ≤ low → k ≡ 0 → DigitsRead d k at None
digits_none d k at low h e l z =
    subst (λ (n : ℕ). BeginsNot (digits n) (Fits n) Any (drop at d)) (sym z)
    (subst (BeginsNot (digits zero) (Fits zero) Any) (sym (front d at low h e)) (last_not low (drop (at + 1) d) l))

module _ (d : List ℕ) (k at low : ℕ) (h : at < length d) (e : low ≡ get_or d at 0) (l : 128 ≤ low) (byte : low < 256) where
  more : (v : Maybe (Read ℕ)) → DigitsRead d k (at + 1) v → DigitsRead d (suc k) at (joined_of (low - 128) v)
  more None g = subst (BeginsNot (digits (suc k)) (Fits (suc k)) Any) (sym (front d at low h e)) (more_not k low (drop (at + 1) d) l g)
  more (Some r) g = go (ltb 0 r.value) (ltb r.value 144115188075855872) refl refl
    where
      go : (t u : Bool) → ltb 0 r.value ≡ t → ltb r.value 144115188075855872 ≡ u → DigitsRead d (suc k) at (cond t (cond u (read_to (low - 128 + 128 * r.value) r.next) None) None)
      go true true p q = record {
        begins =
            subst (λ (s : List ℕ). Begins (digits (suc k)) (Fits (suc k)) Any s (low - 128 + 128 * r.value) (drop r.next d)) (sym (front d at low h e))
            (more_read k low (drop (at + 1) d) r.value (drop r.next d) l byte (ltb-true 0 r.value p) (ltb-true r.value 144115188075855872 q) g.begins);
        inside = g.inside;
      }
      go true false p q =
          subst (BeginsNot (digits (suc k)) (Fits (suc k)) Any) (sym (front d at low h e))
          (more_large k low (drop (at + 1) d) r.value (drop r.next d) l (ltb-false r.value 144115188075855872 q) g.begins)
      go false u p q =
          let z : r.value ≡ 0 = omega (arith, ltb-false 0 r.value p) in
          subst (BeginsNot (digits (suc k)) (Fits (suc k)) Any) (sym (front d at low h e))
          (more_zero k low (drop (at + 1) d) (drop r.next d) l (subst (λ (x : ℕ). Begins (digits k) (Fits k) Any (drop (at + 1) d) x (drop r.next d)) z g.begins))

pub digits_more : (d : List ℕ) (k at low : ℕ) (v r : Maybe (Read ℕ)) → at < length d → low ≡ get_or d at 0 → 128 ≤ low → low < 256 → (k ≡ 0 → ⊥)
    → DigitsRead d (k - 1) (at + 1) v → r ≡ joined_of (low - 128) v → DigitsRead d k at r
digits_more d k at low v r h e l b n g q =
    let s : suc (k - 1) ≡ k = omega arith in
    subst (λ (m : ℕ). DigitsRead d m at r) s (subst (DigitsRead d (suc (k - 1)) at) (sym q) (more d (k - 1) at low h e l b v g))

-- ---- a number's field

module _ (d : List ℕ) (at k most : ℕ) (kind : k < 16) (bound : most < 2 ^ 64) where
  pub number_row_end : length d ≤ at → at ≤ length d → NumberRead d at k most (read_to {A = Maybe ℕ} None at)
  number_row_end h l = record {
    begins = subst (λ (s : List ℕ). Begins (number_field k) (Most most) (Later k) s none s) (sym (drop_of_length-le d h)) (number_end k most kind bound);
    inside = l;
  }

  pub number_row_other : at < length d → (get_or d at 0 ≡ 8 * k → ⊥) → NumberRead d at k most (read_to {A = Maybe ℕ} None at)
  number_row_other h n = record {
    begins =
        subst (λ (s : List ℕ). Begins (number_field k) (Most most) (Later k) s none s) (sym (front d at (get_or d at 0) h refl))
        (number_other k most kind bound (get_or d at 0) (drop (at + 1) d) n);
    inside = omega arith;
  }

  module _ (h : at < length d) (e : get_or d at 0 ≡ 8 * k) where
    tagged : drop at d ≡ (8 * k) ∷ drop (at + 1) d
    tagged = front d at (8 * k) h (sym e)

    pub number_row_bad : DigitsRead d 9 (at + 1) None → NumberRead d at k most None
    number_row_bad g =
        subst (BeginsNot (number_field k) (Most most) (Later k)) (sym tagged)
        (number_bad k most kind bound (drop (at + 1) d) g)

    pub number_row_over : (x next : ℕ) → DigitsRead d 9 (at + 1) (read_to x next) → most < x → NumberRead d at k most None
    number_row_over x next g l =
        subst (BeginsNot (number_field k) (Most most) (Later k)) (sym tagged)
        (number_over k most kind bound (drop (at + 1) d) x (drop next d) g.begins l)

    pub number_row_given : (x next : ℕ) → DigitsRead d 9 (at + 1) (read_to x next) → x ≤ most → NumberRead d at k most (read_to (Some x) next)
    number_row_given x next g l =
        record {
          begins =
              subst (λ (s : List ℕ). Begins (number_field k) (Most most) (Later k) s (some x) (drop next d)) (sym tagged)
              (number_given k most kind bound (drop (at + 1) d) x (drop next d) g.begins l);
          inside = g.inside;
        }

-- ---- a part's field

module _ (d : List ℕ) (at k longest : ℕ) (kind : k < 16) (bound : longest < 2 ^ 64) where
  pub bytes_row_end : length d ≤ at → at ≤ length d → BytesRead d at k longest (read_to {A = Maybe Part} None at)
  bytes_row_end h l = record {
    read = record {
      begins = subst (λ (s : List ℕ). Begins (part_field k) (Longest longest) (Later k) s none s) (sym (drop_of_length-le d h)) (part_end k longest kind bound);
      inside = l;
    };
    inside = tt;
    tag = λ t. omega (arith, t, ap (λ (s : List ℕ). get_or s 0 256) (drop_of_length-le d h));
    ends = tt;
  }

  pub bytes_row_other : at < length d → (get_or d at 0 ≡ 8 * k + 2 → ⊥) → BytesRead d at k longest (read_to {A = Maybe Part} None at)
  bytes_row_other h n = record {
    read = record {
      begins =
          subst (λ (s : List ℕ). Begins (part_field k) (Longest longest) (Later k) s none s) (sym (front d at (get_or d at 0) h refl))
          (part_other k longest kind bound (get_or d at 0) (drop (at + 1) d) n);
      inside = omega arith;
    };
    inside = tt;
    tag = λ t. n (sym (ap (λ (s : List ℕ). get_or s 0 256) (front d at (get_or d at 0) h refl)) ∙ t);
    ends = tt;
  }

  module _ (h : at < length d) (e : get_or d at 0 ≡ 8 * k + 2) where
    lengthed : drop at d ≡ (8 * k + 2) ∷ drop (at + 1) d
    lengthed = front d at (8 * k + 2) h (sym e)

    pub bytes_row_bad : DigitsRead d 9 (at + 1) None → BytesRead d at k longest None
    bytes_row_bad g =
        subst (NoPart k longest) (sym lengthed)
        (part_bad k longest kind bound (drop (at + 1) d) g)

    pub bytes_row_over : (x next : ℕ) → DigitsRead d 9 (at + 1) (read_to x next) → longest < x → BytesRead d at k longest None
    bytes_row_over x next g l =
        subst (NoPart k longest) (sym lengthed)
        (part_over k longest kind bound (drop (at + 1) d) x (drop next d) g.begins l)

    pub bytes_row_short : (x next : ℕ) → DigitsRead d 9 (at + 1) (read_to x next) → length d - next < x → BytesRead d at k longest None
    bytes_row_short x next g l =
        subst (NoPart k longest) (sym lengthed)
        (part_short k longest kind bound (drop (at + 1) d) x (drop next d) g.begins (rw length-drop l))

    pub bytes_row_given : (x next : ℕ) → DigitsRead d 9 (at + 1) (read_to x next) → x ≤ longest → x ≤ length d - next
        → BytesRead d at k longest (read_to {A = Maybe Part} (Some (record { at = next; len = x })) (next + x))
    unfolding part
    bytes_row_given x next g l m =
        let p : x ≤ length (drop next d) = rw length-drop m in record {
          read = record {
            begins =
                subst (λ (s : List ℕ). Begins (part_field k) (Longest longest) (Later k) s (some (take x (drop next d))) (drop (next + x) d)) (sym lengthed)
                (subst (λ (t : List ℕ). Begins (part_field k) (Longest longest) (Later k) ((8 * k + 2) ∷ drop (at + 1) d) (some (take x (drop next d))) t) (drop-drop x next d)
                (part_given k longest kind bound (drop (at + 1) d) x (drop next d) g.begins l p));
            inside = omega (arith, g.inside);
          };
          inside = omega (arith, g.inside);
          tag = tt;
          ends = refl;
        }
