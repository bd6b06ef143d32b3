-- The answer of the scope that each case of what is found stands for.
use Rattle.std.specs.Prelude.{Result, Ok, Err}
use Rattle.answer_types.specs.Meaning.{spot_of}
use Rattle.compare.specs.Walk.{Comparison, first_refused, second_refused, roots_differ, at_roots, at_index, equal}
use Rattle.compare.specs.declared.Roots.{Roots}
use Rattle.compare.specs.declared.Roots.TheVariants.{Differ, Collide, Same}
use Rattle.compare.specs.declared.CompareError.{CompareError}
use Rattle.compare.specs.declared.CompareError.TheVariants.{First, Second}
use Rattle.compare.specs.declared.Compared.{Compared}
use Rattle.compare.specs.declared.Compared.TheVariants.{RootsDiffer, AtRoots, AtIndex, Equal}

abbrev pub compared : Compared → Comparison
compared RootsDiffer = roots_differ
compared AtRoots = at_roots
compared (AtIndex i) = at_index i.0
compared Equal = equal

-- and of a comparison, which may be refused for either register
abbrev pub told : Result Compared CompareError → Comparison
told (Ok c) = compared c
told (Err (First r)) = first_refused r.number (spot_of r.place)
told (Err (Second r)) = second_refused r.number (spot_of r.place)

-- and of what the roots say
abbrev pub roots_told : Roots → Comparison
roots_told Differ = roots_differ
roots_told Collide = at_roots
roots_told Same = equal
