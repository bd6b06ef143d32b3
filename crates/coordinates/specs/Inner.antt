-- What the inner functions ask.
use Rattle.std.specs.Prelude.{◌≡◌, ℕ, ◌*◌, ◌≤◌, List, length}
use Rattle.coordinates.specs.Grouping.{count}

-- d has n words
pub record Worded (d : List ℕ) (n : ℕ) : Type 0 where
  pub counted : n ≡ count d
  pub inside : 4 * n ≤ length d
