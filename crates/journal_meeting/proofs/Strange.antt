-- The first strange byte, and a file's state. Assumes nothing.
use Prim.Native.Nat.{ℕ, ◌+◌}
use mathlib.Core.Path.{◌≡◌, sym, ap, ap₂}
use mathlib.Core.Bool.{Bool, true, false, ◌||◌}
use mathlib.Core.List.{List}
use lib.ListN.{get_or}
use lib.Dec.{eqb}
use borrow.Author.Tests.{eq-eqb, ne_eqb}
use Rattle.byte_strings.specs.Lowest.{Lowest, nowhere, first}
use Rattle.journal_meeting.specs.Between.{right_at, shifted}

module _ (f o n : List ℕ) (at i : ℕ) where
  pub is_old : get_or f (at + i) 0 ≡ get_or o i 0 → right_at f o n at i ≡ true
  unfolding right_at
  is_old e = ap (λ (t : Bool). t || eqb (get_or f (at + i) 0) (get_or n i 0)) (eq-eqb (get_or f (at + i) 0) (get_or o i 0) e)

  pub is_new : (get_or f (at + i) 0 ≡ get_or o i 0 → ⊥) → get_or f (at + i) 0 ≡ get_or n i 0 → right_at f o n at i ≡ true
  unfolding right_at
  is_new d e = ap₂ (λ (t u : Bool). t || u) (ne_eqb (get_or f (at + i) 0) (get_or o i 0) d) (eq-eqb (get_or f (at + i) 0) (get_or n i 0) e)

  pub is_strange : (get_or f (at + i) 0 ≡ get_or o i 0 → ⊥) → (get_or f (at + i) 0 ≡ get_or n i 0 → ⊥) → right_at f o n at i ≡ false
  unfolding right_at
  is_strange d e = ap₂ (λ (t u : Bool). t || u) (ne_eqb (get_or f (at + i) 0) (get_or o i 0) d) (ne_eqb (get_or f (at + i) 0) (get_or n i 0) e)

pub shifted_first : (at i : ℕ) (l : Lowest) → l ≡ first i → first (at + i) ≡ shifted at l
unfolding shifted
shifted_first at i l e = sym (ap (shifted at) e)

pub shifted_none : (at : ℕ) (l : Lowest) → l ≡ nowhere → nowhere ≡ shifted at l
unfolding shifted
shifted_none at l e = sym (ap (shifted at) e)
