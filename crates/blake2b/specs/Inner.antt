-- What the inner functions say of a block that is gathered byte by byte, and of a message's blocks behind the key's.
use Rattle.std.specs.Prelude.{◌≡◌, true, false, List, [], ◌∷◌, ℕ, zero, suc, ◌+◌, ◌-◌, ◌*◌, ◌≤◌, ◌<◌, length, get_or}
use Rattle.blake2b_compression.specs.Compression.{F}
use Rattle.blake2b.specs.Hash.{block, blocks}

-- the bytes of the block b from place `from` on are zeros
pub record Blank (b : List ℕ) (from : ℕ) : Type 0 where
  pub long : length b ≡ 128
  pub zeros : (k : ℕ) → from ≤ k → k < 128 → get_or b k 0 ≡ 0

-- r is b up to place `from`, and from there on the bytes of s from place p on, with zeros past its end
pub record Filled (b : List ℕ) (from : ℕ) (s : List ℕ) (p : ℕ) (r : List ℕ) : Type 0 where
  pub long : length r ≡ 128
  pub kept : (k : ℕ) → k < from → get_or r k 0 ≡ get_or b k 0
  pub filled : (j : ℕ) → from + j < 128 → get_or r (from + j) 0 ≡ get_or s (p + j) 0

-- the block r holds the 128 bytes of the message d from place p on, with zeros past its end
pub record Piece (d : List ℕ) (p : ℕ) (r : List ℕ) : Type 0 where
  pub long : length r ≡ 128
  pub holds : (j : ℕ) → j < 128 → get_or r j 0 ≡ get_or d (p + j) 0

-- the state with the key's block in it, where there is a key and its block is not the last
unfoldable pub keyed : List ℕ → List ℕ → List ℕ
keyed h [] = h
keyed h (b ∷ bs) = F h (block (b ∷ bs) 0) 128 false

-- and how many bytes went in
unfoldable pub key_count : List ℕ → ℕ
key_count [] = 0
key_count (b ∷ bs) = 128

-- the state after the first i blocks of the message d, none of which is the last, where t bytes went in before them
unfoldable pub onward : List ℕ → ℕ → List ℕ → ℕ → List ℕ
onward h t d zero = h
onward h t d (suc i) = F (onward h t d i) (block d (128 * i)) (t + 128 * (i + 1)) false

-- the state after all blocks of the message d, where t bytes went in before them
unfoldable pub absorbed : List ℕ → ℕ → List ℕ → List ℕ
absorbed h t d = let last : ℕ = blocks (length d) - 1 in F (onward h t d last) (block d (128 * last)) (t + length d) true
