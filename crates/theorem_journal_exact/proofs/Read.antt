-- The range that stands at a place: its numbers, its test and its bytes. Assumes nothing.
use Prim.Native.Nat.{ℕ, ◌+◌, ◌*◌, ◌≤◌}
use native.Mathlib.Omega.{arith}
use native.Mathlib.Decide.{ℕ_discrete}
use native.Mathlib.Numerals.{add-one}
use mathlib.Core.Path.{◌≡◌, refl, sym, ap, ap₂, ◌∙◌, subst}
use mathlib.Core.Bool.{Bool, true, false, ◌&&◌, ◌||◌}
use mathlib.Core.List.{List, [], ◌∷◌, ◌++◌}
use lib.ListN.{length, get_or, length-replicate}
use lib.Dec.{eqb, leb}
use borrow.Author.Tests.{eq-eqb, ne_eqb, leb-true}
use Rattle.byte_strings.specs.Lists.{part, run, zeros, Bytes}
use Rattle.byte_strings.specs.Numbers.{be, number}
use Rattle.byte_strings.proofs.Lists.{length_part, part_add, part_run, bytes_part}
use Rattle.byte_strings.proofs.Numbers.{be_number}
use Rattle.byte_strings.proofs.Bools.{both_true}
use Rattle.byte_strings.proofs.Tests.{and_true}
use Rattle.journal.specs.Ranges.{Range, replaced, fresh, blank, witness, start, stop, Placed}
use Rattle.journal.specs.Form.{kind_of, size_of, payload, header, encode}
use Rattle.journal.specs.Places.{file_at, kind_at, start_at, size_at, times_long, behind, whole, range_of, range_at}
use Rattle.journal.specs.Reading.{numbers_right}
use Rattle.journal.proofs.Behind.{end_twice, end_bare, end_once, whole_end}
use Rattle.journal_meeting.proofs.Ranges.{is_replaced, is_fresh, is_blank, is_witness}
use Rattle.theorem_journal_exact.proofs.Test.{is_free, fitting, range_right}

-- ---- the test by numbers, where the kind is known

-- the last part of it
abbrev lastly : Bool → ℕ → ℕ → ℕ → ℕ → Bool
lastly b at size old p = elim b as (λ x. Bool) [ true ↦ leb at p | false ↦ leb (at + size) old ]

module _ (kind at size old new a p : ℕ) where
  is_two : kind ≡ 2 → numbers_right kind at size old new a p ≡ (leb a at && (leb (at + size) new && leb at p))
  unfolding numbers_right
  is_two e = ap (λ (b : Bool). leb a at && (leb (at + size) new && lastly (b || eqb kind 3) at size old p)) (eq-eqb kind 2 e)

  is_three : (kind ≡ 2 → ⊥) → kind ≡ 3 → numbers_right kind at size old new a p ≡ (leb a at && (leb (at + size) new && leb at p))
  unfolding numbers_right
  is_three n e = ap₂ (λ (b d : Bool). leb a at && (leb (at + size) new && lastly (b || d) at size old p)) (ne_eqb kind 2 n) (eq-eqb kind 3 e)

  is_other : (kind ≡ 2 → ⊥) → (kind ≡ 3 → ⊥) → numbers_right kind at size old new a p ≡ (leb a at && (leb (at + size) new && leb (at + size) old))
  unfolding numbers_right
  is_other n m = ap₂ (λ (b d : Bool). leb a at && (leb (at + size) new && lastly (b || d) at size old p)) (ne_eqb kind 2 n) (ne_eqb kind 3 m)

-- the test of a range, kind by kind
module _ (at old new a p : ℕ) where
  right_replaced : (o n : List ℕ) → range_right old new a p (replaced at o n) ≡ (leb a at && (leb (at + length n) new && ((eqb (length o) (length n) && leb (at + length o) old) && true)))
  unfolding range_right fitting is_free
  right_replaced o n = refl

  right_fresh : (n : List ℕ) → range_right old new a p (fresh at n) ≡ (leb a at && (leb (at + length n) new && leb at p))
  unfolding range_right fitting is_free
  right_fresh n = refl

  right_blank : (k : ℕ) → range_right old new a p (blank at k) ≡ (leb a at && (leb (at + length (zeros k)) new && leb at p))
  unfolding range_right fitting is_free
  right_blank k = refl

  right_witness : (w : List ℕ) → range_right old new a p (witness at w) ≡ (leb a at && (leb (at + length w) new && (leb (at + length w) old && true)))
  unfolding range_right fitting is_free
  right_witness w = refl

no_part : (j : List ℕ) (p : ℕ) → [] ≡ part j p 0
unfolding part
no_part j p = refl

-- what a range says of the numbers that it was read from
pub record Says (j : List ℕ) (kind at size place : ℕ) (r : Range) : Type 0 where
  pub kinds : kind_of r ≡ kind
  pub begins : start r ≡ at
  pub sizes : size_of r ≡ size
  pub ends : stop r ≡ at + size
  pub held : payload r ≡ part j place (times_long kind * size)
  pub right : (old new a p : ℕ) → range_right old new a p r ≡ numbers_right kind at size old new a p

module _ (j : List ℕ) (kind at size place : ℕ) (held : place + times_long kind * size ≤ length j) where
  of_it : (r : Range) → range_of j kind at size place ≡ r → Says j kind at size place r → Says j kind at size place (range_of j kind at size place)
  of_it r e s = subst (λ (x : Range). Says j kind at size place x) (sym e) s

  replaced_says : kind ≡ 1 → Says j kind at size place (replaced at (part j place size) (part j (place + size) size))
  replaced_says e =
      let h = end_twice kind size place e in
      let a : length (part j place size) ≡ size = length_part j place size (omega arith) in
      let b : length (part j (place + size) size) ≡ size = length_part j (place + size) size (omega arith) in
      let c : times_long kind * size ≡ size + size = omega arith in
      record {
        kinds = sym e;
        begins = refl;
        sizes = b;
        ends = ap (λ (n : ℕ). at + n) b;
        held = sym (part_add j place size size) ∙ ap (part j place) (sym c);
        right = λ old new u v.
            right_replaced at old new u v (part j place size) (part j (place + size) size)
            ∙ ap₂ (λ (x y : ℕ). leb u at && (leb (at + y) new && ((eqb x y && leb (at + x) old) && true))) a b
            ∙ ap (λ (t : Bool). leb u at && (leb (at + size) new && t)) (and_true (eqb size size && leb (at + size) old) ∙ ap (λ (t : Bool). t && leb (at + size) old) (eq-eqb size size refl))
            ∙ sym (is_other kind at size old new u v (omega arith) (omega arith));
      }

  fresh_says : kind ≡ 2 → Says j kind at size place (fresh at (part j place size))
  fresh_says e =
      let h = end_once kind size place (omega arith) (omega arith) in
      let a : length (part j place size) ≡ size = length_part j place size (omega arith) in
      let c : times_long kind * size ≡ size = omega arith in
      record {
        kinds = sym e;
        begins = refl;
        sizes = a;
        ends = ap (λ (n : ℕ). at + n) a;
        held = ap (part j place) (sym c);
        right = λ old new u v.
            right_fresh at old new u v (part j place size) ∙ ap (λ (x : ℕ). leb u at && (leb (at + x) new && leb at v)) a ∙ sym (is_two kind at size old new u v e);
      }

  blank_says : kind ≡ 3 → Says j kind at size place (blank at size)
  blank_says e =
      let h = end_bare kind size place (omega arith) e in
      let c : times_long kind * size ≡ 0 = omega arith in
      record {
        kinds = sym e;
        begins = refl;
        sizes = refl;
        ends = ap (λ (x : ℕ). at + x) (length-replicate {A = ℕ} size 0);
        held = no_part j place ∙ ap (part j place) (sym c);
        right = λ old new u v.
            right_blank at old new u v size
            ∙ ap (λ (x : ℕ). leb u at && (leb (at + x) new && leb at v)) (length-replicate {A = ℕ} size 0) ∙ sym (is_three kind at size old new u v (omega arith) e);
      }

  witness_says : kind ≡ 4 → Says j kind at size place (witness at (part j place size))
  witness_says e =
      let h = end_once kind size place (omega arith) (omega arith) in
      let a : length (part j place size) ≡ size = length_part j place size (omega arith) in
      let c : times_long kind * size ≡ size = omega arith in
      record {
        kinds = sym e;
        begins = refl;
        sizes = a;
        ends = ap (λ (n : ℕ). at + n) a;
        held = ap (part j place) (sym c);
        right = λ old new u v.
            right_witness at old new u v (part j place size)
            ∙ ap (λ (x : ℕ). leb u at && (leb (at + x) new && (leb (at + x) old && true))) a
            ∙ ap (λ (t : Bool). leb u at && (leb (at + size) new && t)) (and_true (leb (at + size) old)) ∙ sym (is_other kind at size old new u v (omega arith) (omega arith));
      }

  range_says : 1 ≤ kind → kind ≤ 4 → Says j kind at size place (range_of j kind at size place)
  range_says l h = one (ℕ_discrete kind 1) (ℕ_discrete kind 2) (ℕ_discrete kind 3)
    where
      one : Dec (kind ≡ 1) → Dec (kind ≡ 2) → Dec (kind ≡ 3) → Says j kind at size place (range_of j kind at size place)
      one (yes e) y z = of_it _ (is_replaced j kind at size place e) (replaced_says e)
      one (no n) (yes e) z = of_it _ (is_fresh j kind at size place n e) (fresh_says e)
      one (no n) (no o) (yes e) = of_it _ (is_blank j kind at size place n o e) (blank_says e)
      one (no n) (no o) (no p) = of_it _ (is_witness j kind at size place n o p) (witness_says (omega arith))

-- ---- a whole range

-- the range at q with its file
abbrev pub placed_at : List ℕ → ℕ → Placed
placed_at j q = record { file = file_at j q; range = range_at j q }

module _ (j : List ℕ) (m q : ℕ) (l : m ≤ length j) (w : whole j m q ≡ true) where
  inside : behind j q ≤ length j
  inside = let h = whole_end j m q w in omega arith

  pub whole_kind : (1 ≤ kind_at j q) × (kind_at j q ≤ 4)
  unfolding whole
  whole_kind =
      let x = both_true (leb (q + 18) m) ((leb 1 (kind_at j q) && leb (kind_at j q) 4) && leb (behind j q) m) w in
      let y = both_true (leb 1 (kind_at j q) && leb (kind_at j q) 4) (leb (behind j q) m) x.1 in
      let z = both_true (leb 1 (kind_at j q)) (leb (kind_at j q) 4) y.0 in
      (leb-true _ _ z.0, leb-true _ _ z.1)

  pub whole_says : Says j (kind_at j q) (start_at j q) (size_at j q) (q + 18) (range_at j q)
  unfolding range_at behind
  whole_says = range_says j (kind_at j q) (start_at j q) (size_at j q) (q + 18) inside whole_kind.0 whole_kind.1

  pub behind_long : behind j q ≡ q + 18 + times_long (kind_at j q) * size_at j q
  unfolding behind
  behind_long = refl

  two : q + 2 ≤ length j → part j q 2 ≡ file_at j q ∷ kind_at j q ∷ []
  unfolding run
  two h = part_run j q 2 0 h ∙ ap (λ (n : ℕ). get_or j q 0 ∷ get_or j n 0 ∷ []) (sym (add-one q))

  module _ (b : Bytes j) where
    word : (p : ℕ) → p + 8 ≤ length j → part j p 8 ≡ be 8 (number (part j p 8))
    word p h = sym (be_number 8 (part j p 8) (bytes_part j p 8 b) (length_part j p 8 h))

    header_is : part j q 18 ≡ header (file_at j q) (kind_at j q) (start_at j q) (size_at j q)
    unfolding header
    header_is =
        let h = inside in
        let g = behind_long in
        let d : q + 2 + 8 ≡ q + 10 = omega arith in
        part_add j q 2 16
        ∙ ap₂ (λ (x y : List ℕ). x ++ y) (two (omega arith))
        (part_add j (q + 2) 8 8 ∙ ap₂ (λ (x y : List ℕ). x ++ y) (word (q + 2) (omega arith)) (ap (λ (n : ℕ). part j n 8) d ∙ word (q + 10) (omega arith)))

    pub encode_is : part j q (18 + times_long (kind_at j q) * size_at j q) ≡ encode (placed_at j q)
    unfolding encode
    encode_is =
        let s = whole_says in
        part_add j q 18 (times_long (kind_at j q) * size_at j q)
        ∙ ap₂ (λ (x y : List ℕ). x ++ y) (header_is ∙ sym (ap (λ (k : ℕ). header (file_at j q) k (start (range_at j q)) (size_of (range_at j q))) s.kinds
        ∙ ap₂ (λ (x y : ℕ). header (file_at j q) (kind_at j q) x y) s.begins s.sizes)) (sym s.held)
