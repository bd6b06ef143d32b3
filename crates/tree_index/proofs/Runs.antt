-- Runs of values: what is among them.
-- Assumes nothing.
use Prim.Native.Nat.{ℕ, zero, suc, ◌+◌, ◌<◌, suc-le-suc, zero-le}
use mathlib.Core.Path.{◌≡◌, refl, sym, ap, ◌∙◌}
use mathlib.Core.Bool.{Bool, true, false, ◌||◌}
use native.Mathlib.Nat.{add-zero, add-suc, suc-add}
use native.Mathlib.Omega.{arith}
use borrow.Author.Tests.{eq-eqb, eqb-true}
use lib.Dec.{eqb}
use Rattle.byte_strings.specs.Lists.{run, among}

or_right : (x y : Bool) → y ≡ true → x || y ≡ true
or_right true y e = refl
or_right false y e = e

pub among_in : (f : ℕ → ℕ) (a c j : ℕ) → j < c → among (f (a + j)) (run f a c) ≡ true
unfolding run among
among_in f a zero j h = absurd (omega arith)
among_in f a (suc c) zero h = ap (λ (b : Bool). b || among (f (a + 0)) (run f (suc a) c)) (eq-eqb (f (a + 0)) (f a) (ap f (add-zero a)))
among_in f a (suc c) (suc j) h =
    or_right (eqb (f (a + suc j)) (f a)) (among (f (a + suc j)) (run f (suc a) c))
    (ap (λ x. among (f x) (run f (suc a) c)) (add-suc a j ∙ sym (suc-add a j)) ∙ among_in f (suc a) c j (omega arith))

pub among_of : (i : ℕ) (f : ℕ → ℕ) (a c : ℕ) → among i (run f a c) ≡ true → (j : ℕ) × (j < c) × (i ≡ f (a + j))
unfolding run among
among_of i f a zero h = absurd (let z : ◌≡◌ {A = ℕ} 0 1 = cc in omega arith)
among_of i f a (suc c) h = pick (among_of i f (suc a) c) (eqb i (f a)) refl h
  where
    pick : (among i (run f (suc a) c) ≡ true → (j : ℕ) × (j < c) × (i ≡ f (suc a + j)))
        → (t : Bool) → eqb i (f a) ≡ t → t || among i (run f (suc a) c) ≡ true → (j : ℕ) × (j < suc c) × (i ≡ f (a + j))
    pick rest true e g = (zero, suc-le-suc zero-le, eqb-true i (f a) e ∙ ap f (sym (add-zero a)))
    pick rest false e g = let r = rest g in (suc r.0, suc-le-suc r.1, r.2 ∙ ap f (suc-add a r.0 ∙ sym (add-suc a r.0)))
