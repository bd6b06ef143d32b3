-- The lesser of two numbers, by a test. Assumes nothing.
use Prim.Native.Nat.{ℕ, ◌<◌, ◌≤◌}
use mathlib.Core.Path.{◌≡◌, refl}
use mathlib.Core.Bool.{Bool, true, false, cond}
use native.Mathlib.Omega.{arith}
use borrow.Author.Tests.{ltb-true, ltb-false}
use lib.Dec.{ltb}
use Rattle.parts_audit.specs.Range.{lesser}

pub by_test : (b k : ℕ) (P : ℕ → Type 0) → (b < k → P b) → (k ≤ b → P k) → P (lesser b k)
by_test b k P f g = go (ltb b k) refl
  where
    go : (x : Bool) → ltb b k ≡ x → P (cond x b k)
    go true e = f (ltb-true b k e)
    go false e = let l = ltb-false b k e in g (omega arith)
