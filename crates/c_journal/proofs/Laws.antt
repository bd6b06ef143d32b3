-- An answer that is encoded. Assumes nothing.
use Prim.Native.Nat.{ℕ}
use mathlib.Core.Path.{◌≡◌, ap, ◌∙◌}
use mathlib.Core.List.{List}
use Rattle.journal.specs.Reading.{Said}
use Rattle.journal.specs.Meaning.{encoded}

pub coded : (xs : List ℕ) (s t : Said) → xs ≡ encoded s → s ≡ t → xs ≡ encoded t
coded xs s t e d = e ∙ ap encoded d
