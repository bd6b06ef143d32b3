-- What the inner functions of the comparing walk require and ensure.
use Rattle.std.specs.Prelude.{◌≡◌, ℕ, ◌+◌, ◌%◌, ◌^◌, ◌<◌, Bool, ◌&&◌, List, ◌==◌}
use Rattle.byte_strings.specs.Lists.{same_list}
use Rattle.tree_index.specs.Tree.{left_child, right_child, filled, entries}
use Rattle.file_format.specs.Stored.{stored_hash, stored_size, stored_start, stored_message}
use Rattle.file_format.specs.Inner.{RootsIn}
use Rattle.checks.specs.Capped.{capped}
use Rattle.audit.specs.TreeWalk.{leaves_before}
use Rattle.compare.specs.Walk.{collides}

-- a tree file of n chunks at its entry i, with the start of its next leaf
pub record ReadAt (tree : List ℕ) (n i start : ℕ) : Type 0 where
  pub room : RootsIn tree n
  pub entry : i < entries n
  pub here : start ≡ capped (stored_start tree (leaves_before i))

-- the sum of the children's lengths, as 8 bytes tell it
abbrev pub sum_below : List ℕ → ℕ → ℕ
sum_below t i = (stored_size t (left_child i) + stored_size t (right_child i)) % 2 ^ 64

-- the parents at i have one sum and the same child hashes
unfoldable pub same_parent : List ℕ → List ℕ → ℕ → Bool
same_parent t u i =
    (sum_below t i == sum_below u i)
    && (same_list (stored_hash t (left_child i)) (stored_hash u (left_child i))
    && same_list (stored_hash t (right_child i)) (stored_hash u (right_child i)))

-- a collision at the tree index i of two registers of n chunks
unfoldable pub collides_at : (t d u e : List ℕ) → ℕ → ℕ → Bool
collides_at t d u e n i = filled n i && collides (stored_message t d i) (stored_message u e i) (stored_hash t i) (stored_hash u i)
