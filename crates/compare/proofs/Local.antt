-- Small laws of lists and tests that the proofs of the walk and of demand 3 share.
-- Assumes nothing.
use Rattle.std.proofs.Common.{◌≡◌, ℕ, zero, suc, ◌<◌, Bool, true, false, cond, ◌&&◌, ◌≢◌, ◌⊎◌, List, [], ◌∷◌, ◌++◌, map, length, get_or, sym, refl, ◌∙◌, inl, inr, true≢false, suc-ne-zero, arith}
use mathlib.Core.Bool.{false≢true}
use mathlib.Core.List.{head-eq_of_cons-eq, tail-eq_of_cons-eq}
use native.Mathlib.Nat.{suc_inj}
use Rattle.byte_strings.specs.Lists.{same_list}
use Rattle.byte_strings.proofs.Lists.{same_eq, same_of}

-- ---- tests

-- a choice reads what it takes only where it takes it
pub cond_same : {A : Type 0} (b : Bool) (x y z : A) → (b ≡ true → x ≡ y) → cond b x z ≡ cond b y z
cond_same true x y z h = h refl
cond_same false x y z h = refl

pub and_left : (a b : Bool) → (a && b) ≡ true → a ≡ true
and_left true b h = refl
and_left false b h = h

pub and_right : (a b : Bool) → (a && b) ≡ true → b ≡ true
and_right true b h = h
and_right false b h = absurd (false≢true h)

-- "the same" is said of no other lists than equal ones
pub same_false : (xs ys : List ℕ) → same_list xs ys ≡ false → xs ≢ ys
same_false xs ys h e = true≢false (sym (same_of xs ys e) ∙ h)

-- two lists are the same, or they are not, and the test says so
abbrev pub Told : List ℕ → List ℕ → Type 0
Told xs ys = ((xs ≡ ys) × (same_list xs ys ≡ true)) ⊎ ((xs ≢ ys) × (same_list xs ys ≡ false))

pub told : (xs ys : List ℕ) → Told xs ys
told xs ys = go (same_list xs ys) refl
  where
    go : (b : Bool) → same_list xs ys ≡ b → Told xs ys
    go true e = inl (same_eq xs ys e, e)
    go false e = inr (same_false xs ys e, e)

pub false_same : (xs ys : List ℕ) → xs ≢ ys → same_list xs ys ≡ false
false_same xs ys d = elim (told xs ys) [ inl p ↦ absurd (d p.0) | inr p ↦ p.1 ]

-- ---- lists

-- two lists that begin with parts of one length are equal part by part
pub split_append : {A : Type 0} (s₁ s₂ t₁ t₂ : List A) → length s₁ ≡ length s₂ → s₁ ++ t₁ ≡ s₂ ++ t₂ → (s₁ ≡ s₂) × (t₁ ≡ t₂)
split_append [] [] t₁ t₂ l e = (refl, e)
split_append [] (y ∷ s₂) t₁ t₂ l e = absurd (suc-ne-zero (length s₂) (sym l))
split_append (x ∷ s₁) [] t₁ t₂ l e = absurd (suc-ne-zero (length s₁) l)
split_append (x ∷ s₁) (y ∷ s₂) t₁ t₂ l e =
    let r = split_append s₁ s₂ t₁ t₂ (suc_inj l) (tail-eq_of_cons-eq e) in
    ((λ i. head-eq_of_cons-eq e i ∷ r.0 i), r.1)

-- a fact of each number in a list
abbrev pub Every : (ℕ → Type 0) → List ℕ → Type 0
Every P xs = (j : ℕ) → j < length xs → P (get_or xs j 0)

pub map_every : {A : Type 0} (f g : ℕ → A) (xs : List ℕ) → Every (λ x. f x ≡ g x) xs → map f xs ≡ map g xs
map_every f g [] h = refl
map_every f g (x ∷ xs) h = λ t. h zero (omega arith) t ∷ map_every f g xs (λ j l. h (suc j) (omega arith)) t
