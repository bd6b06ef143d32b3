-- Tree indexes read as numbers.
use Rattle.std.specs.Prelude.{ℕ, List, map}
use Rattle.number_types.specs.declared.TreeIndex.{TreeIndex}

-- an array of tree indexes as the list of their numbers
unfoldable pub numbers : List TreeIndex → List ℕ
numbers = map (λ (i : TreeIndex). i.0)
