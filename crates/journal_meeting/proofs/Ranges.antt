-- A range by its numbers, kind by kind, and what judging it gives. Assumes nothing.
use Prim.Native.Nat.{ℕ, ◌+◌, ◌-◌, ◌≤◌, ◌<◌}
use native.Mathlib.Omega.{arith}
use mathlib.Core.Path.{◌≡◌, refl, sym, ap, ap₂, ◌∙◌}
use mathlib.Core.Logic.{⊎_elim}
use mathlib.Core.Bool.{Bool, true, false}
use mathlib.Core.List.{List}
use lib.ListN.{length, take, drop}
use lib.Dec.{leb}
use borrow.Author.Tests.{eq-eqb, ne_eqb, le-leb, lt-leb}
use Rattle.std.specs.Prelude.{◌⊎◌}
use Rattle.byte_strings.specs.Lists.{part}
use Rattle.byte_strings.specs.Lowest.{Lowest, nowhere, first, lowest}
use Rattle.journal.specs.declared.kinds.Kind.TheVariants.{Replaced, Fresh, Blank, Witness}
use Rattle.journal.specs.declared.ranges.RangeAt.{RangeAt}
use Rattle.journal.specs.Kinds.{number_of}
use Rattle.journal.specs.Ranges.{replaced, fresh, blank, witness}
use Rattle.journal.specs.Places.{range_of, range_at}
use Rattle.journal.specs.Found.{Reads}
use Rattle.journal.proofs.Behind.{end_twice, end_once, new_second, new_is, behind_is}
use Rattle.journal_meeting.specs.Between.{right_at, judged_range, in_file, shifted, met_range}

module _ (j : List ℕ) (kind at size place : ℕ) where
  pub is_replaced : kind ≡ 1 → range_of j kind at size place ≡ replaced at (part j place size) (part j (place + size) size)
  unfolding range_of
  is_replaced e = rw (eq-eqb kind 1 e, range_of)

  pub is_fresh : (kind ≡ 1 → ⊥) → kind ≡ 2 → range_of j kind at size place ≡ fresh at (part j place size)
  unfolding range_of
  is_fresh n e = rw (ne_eqb kind 1 n, eq-eqb kind 2 e, range_of)

  pub is_blank : (kind ≡ 1 → ⊥) → (kind ≡ 2 → ⊥) → kind ≡ 3 → range_of j kind at size place ≡ blank at size
  unfolding range_of
  is_blank n m e = rw (ne_eqb kind 1 n, ne_eqb kind 2 m, eq-eqb kind 3 e, range_of)

  pub is_witness : (kind ≡ 1 → ⊥) → (kind ≡ 2 → ⊥) → (kind ≡ 3 → ⊥) → range_of j kind at size place ≡ witness at (part j place size)
  unfolding range_of
  is_witness n m l = rw (ne_eqb kind 1 n, ne_eqb kind 2 m, ne_eqb kind 3 l, range_of)

-- judging by what the range is
abbrev judgement : Bool → ℕ → Lowest → Lowest
judgement b at l = elim b as (λ x. Lowest) [ true ↦ shifted at l | false ↦ first at ]

module _ (f : List ℕ) (at : ℕ) (o n : List ℕ) where
  met_replaced : met_range f (replaced at o n) ≡ judgement (leb (at + length n) (length f)) at (lowest (right_at f o n at) 0 (length n))
  unfolding met_range in_file judged_range
  met_replaced = refl

  pub outside : length f < at + length n → first at ≡ met_range f (replaced at o n)
  outside h = sym (met_replaced ∙ ap (λ (b : Bool). judgement b at (lowest (right_at f o n at) 0 (length n))) (lt-leb (at + length n) (length f) h))

  pub judged : at + length n ≤ length f → (l : Lowest) → l ≡ shifted at (lowest (right_at f o n at) 0 (length n)) → l ≡ met_range f (replaced at o n)
  judged h l e = e ∙ sym (met_replaced ∙ ap (λ (b : Bool). judgement b at (lowest (right_at f o n at) 0 (length n))) (le-leb (at + length n) (length f) h))

-- bytes that stay are judged as if they were written anew
met_witness : (f : List ℕ) (at : ℕ) (w : List ℕ) → met_range f (replaced at w w) ≡ met_range f (witness at w)
unfolding met_range in_file judged_range
met_witness f at w = refl

-- a part that is lent
lent : (j : List ℕ) (a b k : ℕ) → b ≡ a + k → part j a k ≡ take (b - a) (drop a j)
unfolding part
lent j a b k e = let d : b - a ≡ k = omega arith in ap (λ (n : ℕ). take n (drop a j)) (sym d)

module _ (j : List ℕ) (q : ℕ) (r : RangeAt) (w : Reads j q r) where
  numbers : range_at j q ≡ range_of j (number_of r.kind) r.offset r.size (q + 18)
  unfolding range_at
  numbers = let k = w.kind in let o = w.offset in let s = w.size in rw (k, o, s)

  -- where the bytes of a range end
  pub ends_twice : r.kind ≡ Replaced → (r.bytes ≡ q + 18 + r.size) × (r.behind ≡ r.bytes + r.size)
  ends_twice e =
      let k : number_of r.kind ≡ 1 = ap number_of e in
      let n = w.bytes ∙ sym (new_is j q (number_of r.kind) r.size w.kind w.size) ∙ sym (new_second (number_of r.kind) r.size (q + 18) k) in
      (n, w.behind ∙ behind_is j q (number_of r.kind) r.size w.kind w.size ∙ end_twice (number_of r.kind) r.size (q + 18) k ∙ ap (λ (x : ℕ). x + r.size) (sym n))

  ends_once : r.kind ≡ Witness → r.behind ≡ q + 18 + r.size
  ends_once e =
      let k : number_of r.kind ≡ 4 = ap number_of e in
      w.behind ∙ behind_is j q (number_of r.kind) r.size w.kind w.size ∙ end_once (number_of r.kind) r.size (q + 18) (omega arith) (omega arith)

  module _ (f : List ℕ) where
    pub replaced_met : r.kind ≡ Replaced
        → met_range f (replaced r.offset (take (r.bytes - (q + 18)) (drop (q + 18) j)) (take (r.behind - r.bytes) (drop r.bytes j))) ≡ met_range f (range_at j q)
    replaced_met e =
        let b = ends_twice e in
        ap (met_range f)
        (sym (numbers ∙ is_replaced j (number_of r.kind) r.offset r.size (q + 18) (ap number_of e)
        ∙ ap₂ (replaced r.offset) (lent j (q + 18) r.bytes r.size b.0) (ap (λ (x : ℕ). part j x r.size) (sym b.0) ∙ lent j r.bytes r.behind r.size b.1)))

    pub witness_met : r.kind ≡ Witness
        → met_range f (replaced r.offset (take (r.behind - (q + 18)) (drop (q + 18) j)) (take (r.behind - (q + 18)) (drop (q + 18) j))) ≡ met_range f (range_at j q)
    witness_met e =
        let k : number_of r.kind ≡ 4 = ap number_of e in
        met_witness f r.offset (take (r.behind - (q + 18)) (drop (q + 18) j))
        ∙ ap (met_range f)
        (sym (numbers ∙ is_witness j (number_of r.kind) r.offset r.size (q + 18) (omega arith) (omega arith) (omega arith)
        ∙ ap (witness r.offset) (lent j (q + 18) r.behind r.size (ends_once e))))

    -- bytes that may be any
    pub free_met : (r.kind ≡ Fresh) ⊎ (r.kind ≡ Blank) → nowhere ≡ met_range f (range_at j q)
    unfolding met_range in_file judged_range shifted
    free_met s = ⊎_elim (λ e. is_two (ap number_of e)) (λ e. is_three (ap number_of e)) s
      where
        is_two : number_of r.kind ≡ 2 → nowhere ≡ met_range f (range_at j q)
        is_two k = sym (ap (met_range f) (numbers ∙ is_fresh j (number_of r.kind) r.offset r.size (q + 18) (omega arith) k))

        is_three : number_of r.kind ≡ 3 → nowhere ≡ met_range f (range_at j q)
        is_three k = sym (ap (met_range f) (numbers ∙ is_blank j (number_of r.kind) r.offset r.size (q + 18) (omega arith) (omega arith) k))
