-- The verdicts that a search for the lowest wrong number gives.
-- Assumes nothing.
use Rattle.std.specs.Prelude.{Result, Err, ⊤}
use Prim.Native.Nat.{ℕ, zero, suc, ◌+◌}
use mathlib.Core.Path.{◌≡◌, refl, sym, ap, ap₂, ◌∙◌}
use mathlib.Core.Bool.{Bool, true, false, cond}
use mathlib.Core.List.{List, [], ◌∷◌}
use native.Mathlib.Nat.{add-zero, zero-add, suc-add}
use native.Mathlib.Omega.{arith}
use Rattle.answer_types.specs.Verdict.{Spot, Verdict, none, done, refused, and_then}
use Rattle.answer_types.specs.Meaning.{said}
use Rattle.answer_types.specs.declared.Refusal.{Refusal}
use Rattle.checks.specs.Checks.{Check, judged}
use Rattle.byte_strings.specs.Lowest.{Lowest, nowhere, first, lowest}
use Rattle.byte_strings.proofs.Lowest.{step}
pub use Rattle.byte_strings.proofs.Lowest.{lowest_on, lowest_off, lowest_end, lowest_agree}
use Rattle.audit.specs.Audit.{refused_at}

-- ---- verdicts one after the other

pub then_assoc : (u v w : Verdict) → and_then u (and_then v w) ≡ and_then (and_then u v) w
then_assoc done v w = refl
then_assoc (refused m at) v w = refl

-- nothing comes next after a refusal
pub stops : (x : Result ⊤ Refusal) (r : Refusal) → x ≡ Err r → (next : Verdict) → and_then (said x) next ≡ said x
stops x r e next = ap (λ (y : Result ⊤ Refusal). and_then (said y) next) e ∙ sym (ap said e)

pub judged_then : (cs : List Check) (next : Verdict) → judged cs next ≡ and_then (judged cs done) next
unfolding judged
judged_then [] next = refl
judged_then (c ∷ cs) next = go c.right (judged_then cs next)
  where
    go : (b : Bool) → judged cs next ≡ and_then (judged cs done) next
        → cond b (judged cs next) (refused c.number none) ≡ and_then (cond b (judged cs done) (refused c.number none)) next
    go true r = r
    go false r = refl

pub refused_then : (m : ℕ) (at : ℕ → Spot) (l : Lowest) (next : Verdict) → refused_at m at l next ≡ and_then (refused_at m at l done) next
unfolding refused_at
refused_then m at nowhere next = refl
refused_then m at (first i) next = refl

-- a search in two parts
module _ (right : ℕ → Bool) (m : ℕ) (at : ℕ → Spot) where
  abbrev searched : ℕ → ℕ → Verdict
  searched i k = refused_at m at (lowest right i k) done

  pub search_parts : (i a b : ℕ) → searched i (a + b) ≡ and_then (searched i a) (searched (i + a) b)
  unfolding lowest refused_at
  search_parts i zero b = ap₂ searched (sym (add-zero i)) (zero-add b)
  search_parts i (suc a) b = ap (searched i) (suc-add a b) ∙ go (right i) (search_parts (suc i) a b)
    where
      go : (c : Bool) → searched (suc i) (a + b) ≡ and_then (searched (suc i) a) (searched (suc i + a) b)
          → refused_at m at (step c i (lowest right (suc i) (a + b))) done
          ≡ and_then (refused_at m at (step c i (lowest right (suc i) a)) done) (searched (i + suc a) b)
      go false r = refl
      go true r = let e : suc i + a ≡ i + suc a = omega arith in r ∙ ap (λ (j : ℕ). and_then (searched (suc i) a) (searched j b)) e
