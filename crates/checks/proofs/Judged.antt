-- Laws of a list of checks, whatever they test. Assumes nothing.
use mathlib.Core.Path.{◌≡◌, refl, sym, ap, ◌∙◌}
use mathlib.Core.Bool.{Bool, true, false, cond}
use mathlib.Core.List.{List, [], ◌∷◌, ◌++◌}
use Prim.Native.Nat.{ℕ}
use native.Mathlib.Omega.{arith}
use Rattle.answer_types.specs.Verdict.{Verdict, Spot, none, done, refused}
use Rattle.checks.specs.Checks.{Check, judged}

-- every check of a list is passed
abbrev pub AllRight : List Check → Type 0
AllRight [] = Unit {0}
AllRight (c ∷ cs) = (c.right ≡ true) × AllRight cs

-- no verdict is both
pub not_both_verdicts : (v : Verdict) (m : ℕ) (at : Spot) → v ≡ done → v ≡ refused m at → ⊥
not_both_verdicts v m at e f = let z : ◌≡◌ {A = ℕ} 0 1 = cc in omega arith

-- what the first check leaves to the others
pub at_right : (c : Check) (cs : List Check) (next : Verdict) → c.right ≡ true → judged (c ∷ cs) next ≡ judged cs next
unfolding judged
at_right c cs next e = ap (λ (b : Bool). cond b (judged cs next) (refused c.number none)) e

pub at_wrong : (c : Check) (cs : List Check) (next : Verdict) → c.right ≡ false → judged (c ∷ cs) next ≡ refused c.number none
unfolding judged
at_wrong c cs next e = ap (λ (b : Bool). cond b (judged cs next) (refused c.number none)) e

-- what comes behind checks matters only where they are all passed
pub judged_same : (cs : List Check) (v w : Verdict) → (AllRight cs → v ≡ w) → judged cs v ≡ judged cs w
unfolding judged
judged_same [] v w h = h tt
judged_same (c ∷ cs) v w h = pick c.right refl (λ g. judged_same cs v w g)
  where
    pick : (b : Bool) → c.right ≡ b → ((AllRight cs → v ≡ w) → judged cs v ≡ judged cs w)
        → cond b (judged cs v) (refused c.number none) ≡ cond b (judged cs w) (refused c.number none)
    pick true e rec = rec (λ p. h (e, p))
    pick false e rec = refl

-- a call that passes them all says what comes next
pub judged_right : (cs : List Check) (next : Verdict) → AllRight cs → judged cs next ≡ next
unfolding judged
judged_right [] next p = refl
judged_right (c ∷ cs) next p = at_right c cs next p.0 ∙ judged_right cs next p.1

-- and only such a call is done
one_must : (b : Bool) (m : ℕ) (rest : Verdict) → cond b rest (refused m none) ≡ done → (b ≡ true) × (rest ≡ done)
one_must true m rest e = (refl, e)
one_must false m rest e = let z : ◌≡◌ {A = ℕ} 0 1 = cc in absurd (omega arith)

pub judged_done : (cs : List Check) (next : Verdict) → judged cs next ≡ done → AllRight cs × (next ≡ done)
unfolding judged
judged_done [] next e = (tt, e)
judged_done (c ∷ cs) next e =
    let a = one_must c.right c.number (judged cs next) e in
    let b = judged_done cs next a.1 in
    ((a.0, b.0), b.1)

-- a refusal is the same whatever would have come next
pub judged_refused : (cs : List Check) (next : Verdict) (m : ℕ) (at : Spot) → judged cs done ≡ refused m at → judged cs next ≡ refused m at
unfolding judged
judged_refused [] next m at e = let z : ◌≡◌ {A = ℕ} 0 1 = cc in absurd (omega arith)
judged_refused (c ∷ cs) next m at e = pick c.right refl (λ g. judged_refused cs next m at g)
  where
    pick : (b : Bool) → c.right ≡ b → (judged cs done ≡ refused m at → judged cs next ≡ refused m at) → judged (c ∷ cs) next ≡ refused m at
    pick true f rest = at_right c cs next f ∙ rest (sym (at_right c cs done f) ∙ e)
    pick false f rest = at_wrong c cs next f ∙ (sym (at_wrong c cs done f) ∙ e)

-- checks behind checks
pub judged_append : (cs ds : List Check) (next : Verdict) → judged (cs ++ ds) next ≡ judged cs (judged ds next)
unfolding judged
judged_append [] ds next = refl
judged_append (c ∷ cs) ds next = ap (λ (v : Verdict). cond c.right v (refused c.number none)) (judged_append cs ds next)
