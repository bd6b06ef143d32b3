-- The chunks of the input, one after the other.
-- Assumes nothing.
use Prim.Native.Nat.{ℕ, suc, ◌+◌, ◌-◌, ◌≤◌, ◌<◌}
use mathlib.Core.Path.{◌≡◌, refl, sym, ap, ap₂, ◌∙◌, subst}
use mathlib.Core.Bool.{Bool, true, false}
use mathlib.Core.List.{List, [], ◌∷◌, ◌++◌}
use native.Mathlib.Nat.{sub-zero}
use native.Mathlib.Omega.{arith}
use borrow.Author.Tests.{eqb-true, eqb-false, eq-eqb, ne_eqb}
use lib.Dec.{eqb}
use lib.ListN.{length, take, drop, length-drop}
use lib.Seq.{drop-drop}
use Rattle.byte_strings.specs.Lists.{part, Bytes}
use Rattle.byte_strings.specs.Numbers.{number}
use Rattle.byte_strings.proofs.Lists.{length_part, bytes_part}
use Rattle.checks.specs.Lent.{register_of}
use Rattle.file_format.specs.Belongs.{Register}
use Rattle.listing_lines.specs.Input.{Input, other, chunks, before, next_length, chunk_stands, chunks_in}
use Rattle.listing_lines.specs.Inner.{Ready, Adds, behind, Reading, Read}

behind_snoc : (cs : List (List ℕ)) (c : List ℕ) (i : Input) → behind (cs ++ (c ∷ [])) i ≡ behind cs (before c i)
unfolding behind
behind_snoc [] c i = refl
behind_snoc (x ∷ cs) c i = ap (before x) (behind_snoc cs c i)

behind_other : (cs : List (List ℕ)) → behind cs other ≡ other
unfolding behind
behind_other [] = refl
behind_other (x ∷ cs) = ap (before x) (behind_other cs)

abbrev chosen : Bool → Input → Input
chosen b i = elim b [ true ↦ i | false ↦ other ]

-- one chunk of those that are left
pub one_more_lem : (k : ℕ) (xs : List ℕ) (left : ℕ) → chunk_stands xs left ≡ true
    → chunks_in (suc k) xs left ≡ before (part xs 4 (next_length xs)) (chunks_in k (drop (4 + next_length xs) xs) (left - next_length xs))
unfolding chunks_in
one_more_lem k xs left h = ap (λ (b : Bool). chosen b (before (part xs 4 (next_length xs)) (chunks_in k (drop (4 + next_length xs) xs) (left - next_length xs)))) h

pub none_more : (k : ℕ) (xs : List ℕ) (left : ℕ) → chunk_stands xs left ≡ false → chunks_in (suc k) xs left ≡ other
unfolding chunks_in
none_more k xs left h = ap (λ (b : Bool). chosen b (before (part xs 4 (next_length xs)) (chunks_in k (drop (4 + next_length xs) xs) (left - next_length xs)))) h

part_drop : (xs : List ℕ) (at a k : ℕ) → part (drop at xs) a k ≡ part xs (at + a) k
unfolding part
part_drop xs at a k = ap (take k) (drop-drop a at xs)

drop_twice : (xs : List ℕ) (a b c : ℕ) → a + b ≡ c → drop b (drop a xs) ≡ drop c xs
drop_twice xs a b c e = drop-drop b a xs ∙ ap (λ (k : ℕ). drop k xs) e

left_suc : (count n : ℕ) → n < count → count - n ≡ suc (count - (n + 1))
left_suc count n h = omega arith

next_at : (input : List ℕ) (at : ℕ) → next_length (drop at input) ≡ number (part input at 4)
unfolding next_length part
next_at input at = refl

pub start_reading : (input : Input) (r : Register) → Ready r [] → Reading input input r
unfolding behind
start_reading input r y = record { cs = []; ready = y; same = refl }

pub next_reading : (whole : Input) (input : List ℕ) (count n at size len : ℕ) (r r' : Register) → n < count
    → chunk_stands (drop at input) (4096 - size) ≡ true → len ≡ number (part input at 4) → Bytes (part input (at + 4) len)
    → Reading whole (chunks_in (count - n) (drop at input) (4096 - size)) r → Adds r (part input (at + 4) len) r'
    → Reading whole (chunks_in (count - (n + 1)) (drop (at + 4 + len) input) (4096 - (size + len))) r'
next_reading whole input count n at size len r r' h s e p g a =
    let q : next_length (drop at input) ≡ len = next_at input at ∙ sym e in
    record {
      cs = g.cs ++ (part input (at + 4) len ∷ []);
      ready = a.grows p g.cs g.ready;
      same =
          g.same
          ∙ ap (behind g.cs)
          (ap (λ (k : ℕ). chunks_in k (drop at input) (4096 - size)) (left_suc count n h)
          ∙ one_more_lem (count - (n + 1)) (drop at input) (4096 - size) s
          ∙ ap₂ before (at_part q) (at_rest q))
          ∙ sym (behind_snoc g.cs (part input (at + 4) len) (chunks_in (count - (n + 1)) (drop (at + 4 + len) input) (4096 - (size + len))));
    }
  where
    at_part : next_length (drop at input) ≡ len → part (drop at input) 4 (next_length (drop at input)) ≡ part input (at + 4) len
    at_part q = ap (part (drop at input) 4) q ∙ part_drop input at 4 len

    at_rest : next_length (drop at input) ≡ len
        → chunks_in (count - (n + 1)) (drop (4 + next_length (drop at input)) (drop at input)) (4096 - size - next_length (drop at input))
        ≡ chunks_in (count - (n + 1)) (drop (at + 4 + len) input) (4096 - (size + len))
    at_rest q =
        ap (λ (k : ℕ). chunks_in (count - (n + 1)) (drop (4 + k) (drop at input)) (4096 - size - k)) q
        ∙ ap₂ (chunks_in (count - (n + 1))) (drop_twice input at (4 + len) (at + 4 + len) (omega arith)) (omega arith)

pub stopped : (whole : Input) (input : List ℕ) (count n at size : ℕ) (r : Register) → n < count → chunk_stands (drop at input) (4096 - size) ≡ false
    → Reading whole (chunks_in (count - n) (drop at input) (4096 - size)) r → whole ≡ other
stopped whole input count n at size r h s g =
    g.same
    ∙ ap (behind g.cs) (ap (λ (k : ℕ). chunks_in k (drop at input) (4096 - size)) (left_suc count n h) ∙ none_more (count - (n + 1)) (drop at input) (4096 - size) s)
    ∙ behind_other g.cs

pub first_reading : (xs : List ℕ) (count : ℕ) (r : Register) → Ready r [] → Reading (chunks_in count xs 4096) (chunks_in (count - 0) xs 4096) r
first_reading xs count r y =
    subst (λ (k : ℕ). Reading (chunks_in count xs 4096) (chunks_in k xs 4096) r) (sym (sub-zero count)) (start_reading (chunks_in count xs 4096) r y)

never : false ≡ true → ⊥
never e = let z : ◌≡◌ {A = ℕ} 0 1 = cc in omega arith

pub read_stopped : (whole : Input) (r : Register) → whole ≡ other → r.n ≤ 64 → r.size ≤ 4096 → Read whole false r
read_stopped whole r e f s = record { refused = λ h. e; taken = λ h. absurd (never h); few = f; small = s }

ended : (xs : List ℕ) (k left : ℕ) → k ≡ 0 → chunks_in k xs left ≡ elim (eqb (length xs) 0) [ true ↦ chunks [] | false ↦ other ]
unfolding chunks_in
ended xs k left e = ap (λ (j : ℕ). chunks_in j xs left) e

pub read_all : (whole : Input) (input : List ℕ) (count n at left : ℕ) (r : Register) → count ≤ n → at ≤ length input → r.n ≤ 64 → r.size ≤ 4096
    → Reading whole (chunks_in (count - n) (drop at input) left) r → Read whole (eqb at (length input)) r
read_all whole input count n at left r h l f s g =
    record {
      refused =
          λ e. g.same ∙ ap (behind g.cs) (rest ∙ ap (λ (b : Bool). elim b [ true ↦ chunks [] | false ↦ other ])
          (ne_eqb (length (drop at input)) 0 (λ z. eqb-false at (length input) e (omega (arith, length-drop at input))))) ∙ behind_other g.cs;
      taken = λ e.
          record {
            cs = g.cs;
            ready = g.ready;
            same =
                g.same ∙ ap (behind g.cs) (rest ∙ ap (λ (b : Bool). elim b [ true ↦ chunks [] | false ↦ other ])
                (eq-eqb (length (drop at input)) 0 (omega (arith, length-drop at input, eqb-true at (length input) e))));
          };
      few = f;
      small = s;
    }
  where
    rest : chunks_in (count - n) (drop at input) left ≡ elim (eqb (length (drop at input)) 0) [ true ↦ chunks [] | false ↦ other ]
    rest = ended (drop at input) (count - n) left (omega arith)

-- the same where the loop ends
pub read_ended : (whole : Input) (input t s b d : List ℕ) (count n at size : ℕ) → n ≡ count → at ≤ length input → count ≤ 64 → size ≤ 4096
    → Reading whole (chunks_in (count - n) (drop at input) (4096 - size)) (register_of t s b d n n size)
    → Read whole (eqb at (length input)) (register_of t s b d count count size)
read_ended whole input t s b d count n at size e l f z g =
    subst (λ (k : ℕ). Read whole (eqb at (length input)) (register_of t s b d k k size)) e
    (read_all whole input count n at (4096 - size) (register_of t s b d n n size) (omega arith) l (omega arith) z g)

lent_part : (input : List ℕ) (a len : ℕ) → a + len ≤ length input → length (take len (drop a input)) ≡ len
unfolding part
lent_part input a len h = length_part input a len h

pub lent_length : (input : List ℕ) (a len size : ℕ) → a + len ≤ length input → size + len ≤ 4096 → size + length (take (a + len - a) (drop a input)) ≤ 4096
lent_length input a len size h l =
    let k : a + len - a ≡ len = omega arith in
    subst (λ (x : ℕ). size + x ≤ 4096) (sym (ap (λ (y : ℕ). length (take y (drop a input))) k ∙ lent_part input a len h)) l

-- the same from the part that was lent and the registers before and after
pub next_added : (whole : Input) (input t s b d t' s' b' d' : List ℕ) (count n at size len : ℕ) → n < count
    → chunk_stands (drop at input) (4096 - size) ≡ true → len ≡ number (part input at 4) → at + 4 + len ≤ length input → Bytes input
    → Reading whole (chunks_in (count - n) (drop at input) (4096 - size)) (register_of t s b d n n size)
    → Adds (register_of t s b d n n size) (take (at + 4 + len - (at + 4)) (drop (at + 4) input))
    (register_of t' s' b' d' (n + 1) (n + 1) (size + length (take (at + 4 + len - (at + 4)) (drop (at + 4) input))))
    → Reading whole (chunks_in (count - (n + 1)) (drop (at + 4 + len) input) (4096 - (size + len))) (register_of t' s' b' d' (n + 1) (n + 1) (size + len))
unfolding part
next_added whole input t s b d t' s' b' d' count n at size len h st e l p g a =
    let k : at + 4 + len - (at + 4) ≡ len = omega arith in
    let a₁ : Adds (register_of t s b d n n size) (take len (drop (at + 4) input)) (register_of t' s' b' d' (n + 1) (n + 1) (size + length (take len (drop (at + 4) input)))) =
    subst (λ (x : ℕ). Adds (register_of t s b d n n size) (take x (drop (at + 4) input)) (register_of t' s' b' d' (n + 1) (n + 1) (size + length (take x (drop (at + 4) input))))) k a in
    next_reading whole input count n at size len (register_of t s b d n n size) (register_of t' s' b' d' (n + 1) (n + 1) (size + len)) h st e
    (bytes_part input (at + 4) len p) g
    (subst (λ (x : ℕ). Adds (register_of t s b d n n size) (take len (drop (at + 4) input)) (register_of t' s' b' d' (n + 1) (n + 1) (size + x))) (lent_part input (at + 4) len l) a₁)
