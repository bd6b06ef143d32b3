-- The first check that is not passed is the answer. Assumes nothing.
use Prim.Native.Nat.{ℕ, zero, suc, ◌<◌}
use mathlib.Core.Path.{◌≡◌, refl, ◌∙◌}
use mathlib.Core.Bool.{Bool, true, false, cond}
use mathlib.Core.List.{List, [], ◌∷◌, ◌++◌}
use native.Mathlib.Omega.{arith}
use lib.ListN.{length, get_or}
use Rattle.answer_types.specs.Verdict.{Spot, done, refused}
use Rattle.answer_types.specs.Verdict as verdicts
use Rattle.checks.specs.Checks.{Check, judged, register_checks}
use Rattle.checks.proofs.Judged.{at_right, at_wrong}
use Rattle.writing.specs.Append.{append_checks, append_verdict}
use Rattle.writing.specs.Sign.{sign_checks, sign_verdict}
use Rattle.writing.specs.RootHash.{root_verdict}
use Rattle.append_list.specs.Append.{append_list_checks, list_verdict}
use Rattle.prefix_root.specs.PrefixRoot.{own_checks, prefix_verdict}
use Rattle.theorem_refusals.specs.Refusals.{beyond, passes, FirstFails, FirstFailsOfCalls}

first : (cs : List Check) (k : ℕ) → k < length cs → ((j : ℕ) → j < k → passes cs j ≡ true) → passes cs k ≡ false
    → judged cs done ≡ refused (get_or cs k beyond).number verdicts.none
first [] k h before e = absurd (omega arith)
first (c ∷ cs) zero h before e = at_wrong c cs done e
first (c ∷ cs) (suc k) h before e =
    at_right c cs done (before 0 (omega arith)) ∙ first cs k (omega arith) (λ j l. before (suc j) (omega arith)) e

none : (cs : List Check) → ((j : ℕ) → j < length cs → passes cs j ≡ true) → judged cs done ≡ done
unfolding judged
none [] all = refl
none (c ∷ cs) all = at_right c cs done (all 0 (omega arith)) ∙ none cs (λ j l. all (suc j) (omega arith))

first_fails : (cs : List Check) → FirstFails cs (judged cs done)
first_fails cs = record { first = first cs; none = none cs }

-- checks behind others matter only where those are passed
behind : (cs ds : List Check) (k : ℕ) (at : Spot) → judged cs done ≡ refused k at → judged (cs ++ ds) done ≡ refused k at
unfolding judged
behind [] ds k at e = absurd (let z : ◌≡◌ {A = ℕ} 0 1 = cc in omega arith)
behind (c ∷ cs) ds k at e = by c.right e (λ f. behind cs ds k at f)
  where
    by : (b : Bool) → cond b (judged cs done) (refused c.number verdicts.none) ≡ refused k at → (judged cs done ≡ refused k at → judged (cs ++ ds) done ≡ refused k at)
        → cond b (judged (cs ++ ds) done) (refused c.number verdicts.none) ≡ refused k at
    by true f rest = rest f
    by false f rest = f

pub first_fails_of_calls : FirstFailsOfCalls
unfolding append_verdict sign_verdict list_verdict root_verdict prefix_verdict
first_fails_of_calls = record {
  append = λ r chunk. first_fails (append_checks r chunk);
  sign = λ r. first_fails (sign_checks r);
  list = λ r lengths bytes. first_fails (append_list_checks r lengths bytes);
  old = λ r m k at e. behind (register_checks r) (own_checks r.n m) k at e;
}
