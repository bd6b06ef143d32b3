-- Starts that are told up to the largest number that fits.
-- Assumes nothing.
use Prim.Native.Nat.{ℕ, ◌+◌, ◌≤◌, min}
use mathlib.Core.Path.{◌≡◌, refl, sym, ap, ◌∙◌}
use mathlib.Core.Bool.{Bool, true, false, cond}
use native.Mathlib.Omega.{arith}
use borrow.Author.Tests.{le-leb, leb-true, leb-false}
use lib.Dec.{leb}
use Rattle.checks.specs.Capped.{most, capped}

pub capped_low : (x : ℕ) → x ≤ most → capped x ≡ x
unfolding capped
capped_low x h = ap (λ (b : Bool). cond b x most) (le-leb x most h)

pub capped_high : (x : ℕ) → most ≤ x → capped x ≡ most
unfolding capped
capped_high x h = go (leb x most) refl
  where
    go : (b : Bool) → leb x most ≡ b → cond b x most ≡ most
    go true e = let l = leb-true x most e in omega arith
    go false e = refl

-- as a sum that stops at the largest number is said
pub capped_min : (x : ℕ) → min x most ≡ capped x
unfolding capped
capped_min x = go (leb x most) refl
  where
    go : (b : Bool) → leb x most ≡ b → min x most ≡ cond b x most
    go true e = let l = leb-true x most e in omega arith
    go false e = let l = leb-false x most e in omega arith

-- a capped number is low, or the number is high
pub capped_either : (P : ℕ → Type 0) (x : ℕ) → (x ≤ most → P x) → (most ≤ x → P most) → P (capped x)
unfolding capped
capped_either P x f g = go (leb x most) refl
  where
    go : (b : Bool) → leb x most ≡ b → P (cond b x most)
    go true e = f (leb-true x most e)
    go false e = let l = leb-false x most e in g (omega arith)

-- it may be capped before something is added
pub capped_before : (x y : ℕ) → capped (capped x + y) ≡ capped (x + y)
capped_before x y =
    capped_either (λ z. capped (z + y) ≡ capped (x + y)) x (λ h. refl)
    (λ h. capped_high (most + y) (omega arith) ∙ sym (capped_high (x + y) (omega arith)))
