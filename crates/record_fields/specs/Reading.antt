-- What it is to read: the one value whose writing stands at the front of bytes, or none.
use Rattle.std.specs.Prelude.{◌≡◌, List, ◌++◌, ℕ}

-- s begins with the writing of a, which is in bounds, and `rest` follows; no other value in bounds can be meant whose rest may follow it
pub record Begins {A : Type 0} (write : A → List ℕ) (Within : A → Type 0) (Follows : List ℕ → Type 0) (s : List ℕ) (a : A) (rest : List ℕ) : Type 0 where
  pub made : s ≡ write a ++ rest
  pub within : Within a
  pub only : (b : A) (t : List ℕ) → Within b → Follows t → s ≡ write b ++ t → (b ≡ a) × (t ≡ rest)

-- s begins with the writing of no value in bounds whose rest may follow it
abbrev pub BeginsNot : {A : Type 0} → (A → List ℕ) → (A → Type 0) → (List ℕ → Type 0) → List ℕ → Type 0
BeginsNot {A} write Within Follows s = (b : A) (t : List ℕ) → Within b → Follows t → s ≡ write b ++ t → ⊥

-- anything may follow
abbrev pub Any : List ℕ → Type 0
Any t = Unit {0}

-- one behind the other
abbrev pub both : {A B : Type 0} → (A → List ℕ) → (B → List ℕ) → A × B → List ℕ
both w₁ w₂ p = w₁ p.0 ++ w₂ p.1

abbrev pub Both : {A B : Type 0} → (A → Type 0) → (B → Type 0) → A × B → Type 0
Both W₁ W₂ p = W₁ p.0 × W₂ p.1
