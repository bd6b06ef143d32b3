-- How often the hash of a message runs the compression function F: once for each block.
use Rattle.std.specs.Prelude.{ℕ, zero, suc, ◌+◌, ◌-◌, ◌*◌, ◌≡◌, Bool, true, false, List, [], ◌∷◌, ◌++◌, length}
use Rattle.blake2b_compression.specs.Compression.{F}
use Rattle.blake2b.specs.Hash.{block, blocks, input, initial, final}

-- what goes into a run beside the state: a block, the bytes taken by then, and the final flag
pub record Run : Type 0 where
  pub words : List ℕ
  pub taken : ℕ
  pub last : Bool

-- the runs of the first i blocks of the data d, none of which is the last
unfoldable pub inner : List ℕ → ℕ → List Run
inner d zero = []
inner d (suc i) = inner d i ++ (record { words = block d (128 * i); taken = 128 * (i + 1); last = false } ∷ [])

-- the runs that a hash of the data d makes, in their order
unfoldable pub runs_of : List ℕ → List Run
runs_of d = let end : ℕ = blocks (length d) - 1 in inner d end ++ (record { words = block d (128 * end); taken = length d; last = true } ∷ [])

-- the state that runs leave of a state
unfoldable pub through : List ℕ → List Run → List ℕ
through h [] = h
through h (x ∷ xs) = through (F h x.words x.taken x.last) xs

-- "the number of compression runs of BLAKE2b" for the message d under a key
unfoldable pub runs : List ℕ → List ℕ → ℕ
runs key d = length (runs_of (input key d))

-- that these are the runs of the hash: they lead from its first state to its last. And they are as many as the data have blocks, which are the
-- message's under the empty key.
pub record RunsOfTheHash : Type 0 where
  pub state : (nn : ℕ) (key d : List ℕ)
      → final nn (length key) (input key d) ≡ through (initial nn (length key)) (runs_of (input key d))
  pub count : (key d : List ℕ) → runs key d ≡ blocks (length (input key d))
  pub keyless : (d : List ℕ) → runs [] d ≡ blocks (length d)
