-- The lowest number that a test finds wrong.
use Rattle.std.specs.Prelude.{ℕ, zero, suc, ◌+◌, ◌≤◌, ◌<◌, ◌≡◌, ◌↔◌, Bool, true, false}

-- the lowest of the k numbers from i on that a test finds wrong, or none
pub data Lowest : Type 0 where
  nowhere : Lowest
  first : ℕ → Lowest

unfoldable pub lowest : (ℕ → Bool) → ℕ → ℕ → Lowest
lowest right i zero = nowhere
lowest right i (suc k) = elim (right i) [ true ↦ lowest right (suc i) k | false ↦ first i ]

-- what it is: none exactly where all of these numbers are right, and else the one that is wrong with all right before it
pub record IsLowest (right : ℕ → Bool) (i k : ℕ) (l : Lowest) : Type 0 where
  pub none : (l ≡ nowhere) ↔ ((j : ℕ) → i ≤ j → j < i + k → right j ≡ true)
  pub some : (j : ℕ)
      → (l ≡ first j) ↔ ((i ≤ j) × (j < i + k) × (right j ≡ false) × ((m : ℕ) → i ≤ m → m < j → right m ≡ true))

-- for every test and every range
abbrev pub LowestForAll : Type 0
LowestForAll = (right : ℕ → Bool) (i k : ℕ) → IsLowest right i k (lowest right i k)
