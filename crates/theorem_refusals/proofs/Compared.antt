-- A refused comparison names the register that is refused. Assumes nothing.
use Prim.Native.Nat.{ℕ}
use mathlib.Core.Path.{◌≡◌}
use mathlib.Core.List.{List}
use Rattle.answer_types.specs.Verdict.{Spot, done, refused}
use Rattle.file_format.specs.Belongs.{Register}
use Rattle.compare.specs.Walk.{first_refused, second_refused, whole_verdict, compare}
use Rattle.theorem_refusals.specs.Refusals.{CompareNamesForAll}

module _ (F : List ℕ → List ℕ) (a b : Register) (m : ℕ) (at : Spot) where
  first : whole_verdict F a ≡ refused m at → compare F a b ≡ first_refused m at
  unfolding compare
  first e = rw e

  second : whole_verdict F a ≡ done → whole_verdict F b ≡ refused m at → compare F a b ≡ second_refused m at
  unfolding compare
  second e f = rw (e, f)

pub compare_names : CompareNamesForAll
compare_names F a b = record { first = first F a b; second = second F a b }
