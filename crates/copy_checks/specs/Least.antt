-- The lowest of tree indexes.
use Rattle.std.specs.Prelude.{cond, List, [], ◌∷◌, ltb}
use Rattle.byte_strings.specs.Lowest.{Lowest, nowhere, first}

-- the lower of two
unfoldable pub lower_of : Lowest → Lowest → Lowest
lower_of nowhere b = b
lower_of (first i) nowhere = first i
lower_of (first i) (first j) = cond (ltb i j) (first i) (first j)

-- the lowest of all
unfoldable pub least_of : List Lowest → Lowest
least_of [] = nowhere
least_of (x ∷ xs) = lower_of x (least_of xs)
