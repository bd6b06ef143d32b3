-- Laws of reading: one value behind another. Assumes nothing.
use Prim.Native.Nat.{ℕ}
use mathlib.Core.Path.{◌≡◌, sym, ap, ap₂, ◌∙◌}
use mathlib.Core.List.{List, ◌++◌, append_assoc}
use lib.ListN.{drop}
use Rattle.record_fields.specs.Reading.{Begins, BeginsNot, both, Both}
use Rattle.record_fields.specs.Inner.{Upto}

-- ---- one behind the other

pair : {A B : Type 0} → A → B → A × B
pair a b = (a, b)

pair_eq : {A B : Type 0} (p : A × B) (a : A) (b : B) → p.0 ≡ a → p.1 ≡ b → p ≡ (a, b)
unfolding pair
pair_eq {A} {B} p a b e f = ap₂ (pair {A = A} {B = B}) e f

module _ {A B : Type 0} (w₁ : A → List ℕ) (W₁ : A → Type 0) (F₁ : List ℕ → Type 0) (w₂ : B → List ℕ) (W₂ : B → Type 0) (F₂ : List ℕ → Type 0) where
  -- the second, with what may follow it, may follow the first
  abbrev pub Leads : Type 0
  Leads = (b : B) (t : List ℕ) → W₂ b → F₂ t → F₁ (w₂ b ++ t)

  pub first_not : Leads → {s : List ℕ} → BeginsNot w₁ W₁ F₁ s → BeginsNot (both w₁ w₂) (Both W₁ W₂) F₂ s
  first_not leads n p t w f e = n p.0 (w₂ p.1 ++ t) w.0 (leads p.1 t w.1 f) (e ∙ append_assoc (w₁ p.0) (w₂ p.1) t)

  pub second_not : Leads → {s : List ℕ} {a : A} {rest : List ℕ} → Begins w₁ W₁ F₁ s a rest → BeginsNot w₂ W₂ F₂ rest → BeginsNot (both w₁ w₂) (Both W₁ W₂) F₂ s
  second_not leads g n p t w f e =
      n p.1 t w.1 f (sym (g.only p.0 (w₂ p.1 ++ t) w.0 (leads p.1 t w.1 f) (e ∙ append_assoc (w₁ p.0) (w₂ p.1) t)).1)

  pub both_read : Leads → {s : List ℕ} {a : A} {rest : List ℕ} {b : B} {after : List ℕ} → Begins w₁ W₁ F₁ s a rest → Begins w₂ W₂ F₂ rest b after
      → Begins (both w₁ w₂) (Both W₁ W₂) F₂ s (a, b) after
  both_read leads {s} {a} {rest} {b} {after} g h =
      record {
        made = g.made ∙ ap (λ (r : List ℕ). w₁ a ++ r) h.made ∙ sym (append_assoc (w₁ a) (w₂ b) after);
        within = (g.within, h.within);
        only = λ p t w f e. (
            let o = g.only p.0 (w₂ p.1 ++ t) w.0 (leads p.1 t w.1 f) (e ∙ append_assoc (w₁ p.0) (w₂ p.1) t) in
            let q = h.only p.1 t w.1 f (sym o.1) in
            (pair_eq p a b o.0 q.0, q.1));
      }

-- ---- one behind the other, at places

module _ {A B : Type 0} (w₁ : A → List ℕ) (W₁ : A → Type 0) (F₁ : List ℕ → Type 0) (w₂ : B → List ℕ) (W₂ : B → Type 0) (F₂ : List ℕ → Type 0)
    (leads : Leads w₁ W₁ F₁ w₂ W₂ F₂) (d : List ℕ) (at : ℕ) where
  pub then_not : {a : A} {next : ℕ} → Upto w₁ W₁ F₁ d at a next → BeginsNot w₂ W₂ F₂ (drop next d) → BeginsNot (both w₁ w₂) (Both W₁ W₂) F₂ (drop at d)
  then_not u n = second_not w₁ W₁ F₁ w₂ W₂ F₂ leads u.begins n

  pub then_read : {a : A} {next : ℕ} {b : B} {end : ℕ} → Upto w₁ W₁ F₁ d at a next → Upto w₂ W₂ F₂ d next b end
      → Upto (both w₁ w₂) (Both W₁ W₂) F₂ d at (a, b) end
  then_read u v = record { begins = both_read w₁ W₁ F₁ w₂ W₂ F₂ leads u.begins v.begins; inside = v.inside }
