-- Laws of fields: what a tag leads to, and what may stand behind a field. Assumes nothing.
use Prim.Native.Nat.{ℕ, ◌+◌, ◌*◌, ◌^◌, ◌<◌, ◌≤◌}
use mathlib.Core.Path.{◌≡◌, refl, sym, ap, ◌∙◌, subst}
use mathlib.Core.List.{List, [], ◌∷◌, ◌++◌, append_assoc}
use mathlib.Core.Option.{Option, none, some}
use native.Mathlib.Omega.{arith}
use lib.ListN.{length, take, drop, length-append, take-append-drop}
use lib.Seq.{take_at, drop_at, length-take-le}
use Rattle.record_fields.specs.Varints.{varint, Fits}
use Rattle.record_fields.specs.Reading.{Begins, BeginsNot, Any}
use Rattle.record_fields.specs.Fields.{number_field, part_field, Most, Longest, Later}
use Rattle.record_fields.specs.Inner.{NoPart}
use Rattle.record_fields.proofs.Digits.{small, head_eq, tail_eq, nil_cons}

-- ---- tags

pub number_tag : (k x : ℕ) (t : List ℕ) → k < 16 → number_field k (some x) ++ t ≡ (8 * k) ∷ (varint x ++ t)
unfolding number_field
number_tag k x t h =
    append_assoc (varint (8 * k)) (varint x) t ∙ ap (λ (r : List ℕ). r ++ (varint x ++ t)) (small 9 (8 * k) (omega arith))

pub part_tag : (k : ℕ) (bs t : List ℕ) → k < 16 → part_field k (some bs) ++ t ≡ (8 * k + 2) ∷ (varint (length bs) ++ (bs ++ t))
unfolding part_field
part_tag k bs t h =
    append_assoc (varint (8 * k + 2)) (varint (length bs) ++ bs) t
    ∙ ap (λ (r : List ℕ). r ++ ((varint (length bs) ++ bs) ++ t)) (small 9 (8 * k + 2) (omega arith))
    ∙ ap (λ (r : List ℕ). (8 * k + 2) ∷ r) (append_assoc (varint (length bs)) bs t)

pub word_fits : (x : ℕ) → x < 2 ^ 64 → Fits 9 x
word_fits x h = record { digits = omega arith; word = h }

-- ---- what may follow

pub later_nil : (k : ℕ) → k < 16 → Later k []
later_nil k h = omega arith

pub later_later : (k m : ℕ) (t : List ℕ) → k < m → Later m t → Later k t
later_later k m t h l = omega arith

pub later_number : (k m : ℕ) (o : Option ℕ) (t : List ℕ) → k < m → m < 16 → Later m t → Later k (number_field m o ++ t)
unfolding number_field
later_number k m none t h l f = omega arith
later_number k m (some x) t h l f = subst (Later k) (sym (number_tag m x t l)) (omega arith)

pub later_part : (k m : ℕ) (o : Option (List ℕ)) (t : List ℕ) → k < m → m < 16 → Later m t → Later k (part_field m o ++ t)
unfolding part_field
later_part k m none t h l f = omega arith
later_part k m (some bs) t h l f = subst (Later k) (sym (part_tag m bs t l)) (omega arith)

pub later_tag : (k u : ℕ) (s t : List ℕ) → u ≤ 8 * k + 7 → Later k t → u ∷ s ≡ t → ⊥
later_tag k u s t h f e = omega (arith, subst (Later k) (sym e) f)

-- ---- a number at a place

module _ (k most : ℕ) (kind : k < 16) (bound : most < 2 ^ 64) where
  -- nothing is there
  pub number_end : Begins (number_field k) (Most most) (Later k) [] none []
  unfolding number_field
  number_end = record { made = refl; within = tt; only = only }
    where
      only : (o : Option ℕ) (t : List ℕ) → Most most o → Later k t → [] ≡ number_field k o ++ t → (o ≡ none) × (t ≡ [])
      only none t w f e = (refl, sym e)
      only (some x) t w f e = absurd (nil_cons (e ∙ number_tag k x t kind))

  -- another tag is there
  pub number_other : (b : ℕ) (s : List ℕ) → (b ≡ 8 * k → ⊥) → Begins (number_field k) (Most most) (Later k) (b ∷ s) none (b ∷ s)
  unfolding number_field
  number_other b s h = record { made = refl; within = tt; only = only }
    where
      only : (o : Option ℕ) (t : List ℕ) → Most most o → Later k t → b ∷ s ≡ number_field k o ++ t → (o ≡ none) × (t ≡ b ∷ s)
      only none t w f e = (refl, sym e)
      only (some x) t w f e = absurd (h (head_eq (e ∙ number_tag k x t kind)))

  -- the tag is there: what follows it decides
  pub number_not : (s : List ℕ) → ((x : ℕ) (t : List ℕ) → x ≤ most → s ≡ varint x ++ t → ⊥) → BeginsNot (number_field k) (Most most) (Later k) ((8 * k) ∷ s)
  unfolding number_field
  number_not s n none t w f e = later_tag k (8 * k) s t (omega arith) f e
  number_not s n (some x) t w f e = n x t w (tail_eq (e ∙ number_tag k x t kind))

  pub number_bad : (s : List ℕ) → BeginsNot varint (Fits 9) Any s → BeginsNot (number_field k) (Most most) (Later k) ((8 * k) ∷ s)
  number_bad s n = number_not s (λ x t w e. n x t (word_fits x (omega arith)) tt e)

  pub number_over : (s : List ℕ) (x : ℕ) (rest : List ℕ) → Begins varint (Fits 9) Any s x rest → most < x
      → BeginsNot (number_field k) (Most most) (Later k) ((8 * k) ∷ s)
  number_over s x rest g h = number_not s (λ y t w e. omega (arith, (g.only y t (word_fits y (omega arith)) tt e).0))

  pub number_given : (s : List ℕ) (x : ℕ) (rest : List ℕ) → Begins varint (Fits 9) Any s x rest → x ≤ most
      → Begins (number_field k) (Most most) (Later k) ((8 * k) ∷ s) (some x) rest
  unfolding number_field
  number_given s x rest g h = record { made = ap (λ (r : List ℕ). (8 * k) ∷ r) g.made ∙ sym (number_tag k x rest kind); within = h; only = only }
    where
      only : (o : Option ℕ) (t : List ℕ) → Most most o → Later k t → (8 * k) ∷ s ≡ number_field k o ++ t → (o ≡ some x) × (t ≡ rest)
      only none t w f e = absurd (later_tag k (8 * k) s t (omega arith) f e)
      only (some y) t w f e =
          let q = g.only y t (word_fits y (omega arith)) tt (tail_eq (e ∙ number_tag k y t kind)) in
          (ap {B = Option ℕ} some q.0, q.1)

-- ---- a part at a place

module _ (k longest : ℕ) (kind : k < 16) (bound : longest < 2 ^ 64) where
  pub part_end : Begins (part_field k) (Longest longest) (Later k) [] none []
  unfolding part_field
  part_end = record { made = refl; within = tt; only = only }
    where
      only : (o : Option (List ℕ)) (t : List ℕ) → Longest longest o → Later k t → [] ≡ part_field k o ++ t → (o ≡ none) × (t ≡ [])
      only none t w f e = (refl, sym e)
      only (some x) t w f e = absurd (nil_cons (e ∙ part_tag k x t kind))

  pub part_other : (b : ℕ) (s : List ℕ) → (b ≡ 8 * k + 2 → ⊥) → Begins (part_field k) (Longest longest) (Later k) (b ∷ s) none (b ∷ s)
  unfolding part_field
  part_other b s h = record { made = refl; within = tt; only = only }
    where
      only : (o : Option (List ℕ)) (t : List ℕ) → Longest longest o → Later k t → b ∷ s ≡ part_field k o ++ t → (o ≡ none) × (t ≡ b ∷ s)
      only none t w f e = (refl, sym e)
      only (some x) t w f e = absurd (h (head_eq (e ∙ part_tag k x t kind)))

  part_not : (s : List ℕ) → ((bs t : List ℕ) → length bs ≤ longest → s ≡ varint (length bs) ++ (bs ++ t) → ⊥) → NoPart k longest ((8 * k + 2) ∷ s)
  unfolding part_field
  part_not s n = record { none = nothing; given = λ bs t w f e. n bs t w (tail_eq (e ∙ part_tag k bs t kind)); tagged = refl }
    where
      nothing : BeginsNot (part_field k) (Longest longest) (Later k) ((8 * k + 2) ∷ s)
      nothing none t w f e = later_tag k (8 * k + 2) s t (omega arith) f e
      nothing (some bs) t w f e = n bs t w (tail_eq (e ∙ part_tag k bs t kind))

  pub part_bad : (s : List ℕ) → BeginsNot varint (Fits 9) Any s → NoPart k longest ((8 * k + 2) ∷ s)
  part_bad s n = part_not s (λ bs t w e. n (length bs) (bs ++ t) (word_fits (length bs) (omega arith)) tt e)

  module _ (s : List ℕ) (n : ℕ) (rest : List ℕ) (g : Begins varint (Fits 9) Any s n rest) where
    long : (bs t : List ℕ) → length bs ≤ longest → s ≡ varint (length bs) ++ (bs ++ t) → (length bs ≡ n) × (bs ++ t ≡ rest)
    long bs t w e = g.only (length bs) (bs ++ t) (word_fits (length bs) (omega arith)) tt e

    pub part_over : longest < n → NoPart k longest ((8 * k + 2) ∷ s)
    part_over h = part_not s (λ bs t w e. omega (arith, (long bs t w e).0))

    pub part_short : length rest < n → NoPart k longest ((8 * k + 2) ∷ s)
    part_short h = part_not s (λ bs t w e. omega (arith, (long bs t w e).0, length-append bs t, ap length (long bs t w e).1))

    pub part_given : n ≤ longest → n ≤ length rest → Begins (part_field k) (Longest longest) (Later k) ((8 * k + 2) ∷ s) (some (take n rest)) (drop n rest)
    unfolding part_field
    part_given h l = record { made = made; within = omega (arith, size); only = only }
      where
        size : length (take n rest) ≡ n
        size = length-take-le n rest l

        made : (8 * k + 2) ∷ s ≡ part_field k (some (take n rest)) ++ drop n rest
        made =
            ap (λ (r : List ℕ). (8 * k + 2) ∷ r) (g.made ∙ ap (λ (r : List ℕ). varint n ++ r) (sym (take-append-drop n rest)) ∙ ap (λ (m : ℕ). varint m ++ (take n rest ++ drop n rest)) (sym size))
            ∙ sym (part_tag k (take n rest) (drop n rest) kind)

        only : (o : Option (List ℕ)) (t : List ℕ) → Longest longest o → Later k t → (8 * k + 2) ∷ s ≡ part_field k o ++ t → (o ≡ some (take n rest)) × (t ≡ drop n rest)
        only none t w f e = absurd (later_tag k (8 * k + 2) s t (omega arith) f e)
        only (some bs) t w f e =
            let q = long bs t w (tail_eq (e ∙ part_tag k bs t kind)) in (
              ap {B = Option (List ℕ)} some (sym (ap (take n) (sym q.1) ∙ take_at bs t n q.0)),
              sym (ap (drop n) (sym q.1) ∙ drop_at bs t n q.0),
            )
