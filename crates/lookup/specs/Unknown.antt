-- The first entry of a list that is not known, and the entries that a descent reads at a node.
use Rattle.std.specs.Prelude.{ℕ, zero, suc, Bool, cond, List, [], ◌∷◌, Option, Some, None}
use Rattle.byte_strings.specs.Lowest.{Lowest, nowhere, first}
use Rattle.tree_index.specs.Tree.{left_child, right_child}
use Rattle.number_types.specs.declared.TreeIndex.{TreeIndex}

-- the first of the indexes is that is not known
unfoldable pub first_unknown : (ℕ → Bool) → List ℕ → Lowest
first_unknown known [] = nowhere
first_unknown known (i ∷ is) = cond (known i) (first_unknown known is) (first i)

-- of a parent its children are read, the left one first; of a leaf nothing
unfoldable pub children_read : ℕ → ℕ → List ℕ
children_read zero i = []
children_read (suc d) i = left_child i ∷ right_child i ∷ []

-- what each case stands for
abbrev pub first_entry : Option TreeIndex → Lowest
first_entry (Some i) = first i.0
first_entry None = nowhere
