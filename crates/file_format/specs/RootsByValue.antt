-- The roots as the code holds them: arrays of 20, with zeros behind the last root.
use Rattle.std.specs.Prelude.{ℕ, ◌-◌, ◌≡◌, List, [], ◌++◌, length, get_or, replicate}
use Rattle.byte_strings.specs.Lists.{run}
use Rattle.tree_index.specs.Tree.{roots}
use Rattle.tree_index.specs.Numbers.{numbers}
use Rattle.file_format.specs.Messages.{root_item}
use Rattle.file_format.specs.Stored.{stored_hash, stored_size, stored_root_sizes}
use Rattle.file_format.specs.declared.roots.Roots.{Roots}

-- k values, and as many of x behind them that there are 20 in all
unfoldable pub padded : {A : Type 0} → A → ℕ → List A → List A
padded x k xs = xs ++ replicate (20 - k) x

-- what is stored at the first k of the indexes is
unfoldable pub sizes_at : List ℕ → List ℕ → ℕ → List ℕ
sizes_at tree is k = run (λ j. stored_size tree (get_or is j 0)) 0 k

unfoldable pub hashes_at : List ℕ → List ℕ → ℕ → List (List ℕ)
hashes_at tree is k = run (λ j. stored_hash tree (get_or is j 0)) 0 k

-- the items of the root message, out of the first k hashes, indexes and lengths
unfoldable pub items_of : List (List ℕ) → List ℕ → List ℕ → ℕ → List (List ℕ)
items_of hashes is sizes k = run (λ j. root_item (get_or hashes j []) (get_or is j 0) (get_or sizes j 0)) 0 k

-- the stored roots of the first n chunks
pub record RootsOf (tree : List ℕ) (n : ℕ) (r : Roots) : Type 0 where
  pub count : r.count ≡ length (roots n)
  pub indexes : numbers r.indexes ≡ padded 0 (length (roots n)) (roots n)
  pub sizes : r.sizes ≡ padded 0 (length (roots n)) (stored_root_sizes tree n)
