-- Varints: seven bits to a byte, the lowest first; 128 more in a byte says that another follows.
use Rattle.std.specs.Prelude.{ℕ, zero, suc, ◌+◌, ◌/◌, ◌%◌, ◌^◌, ◌<◌, cond, List, [], ◌∷◌, ltb}

-- a number in at most k + 1 bytes
unfoldable pub digits : ℕ → ℕ → List ℕ
digits zero x = x ∷ []
digits (suc k) x = cond (ltb x 128) (x ∷ []) ((128 + x % 128) ∷ digits k (x / 128))

-- "each varint in its shortest form": of a number below 2^64, which ten bytes hold
abbrev pub varint : ℕ → List ℕ
varint x = digits 9 x

-- what k + 1 bytes hold, and what is below 2^64
pub record Fits (k x : ℕ) : Type 0 where
  pub digits : x < 128 ^ suc k
  pub word : x < 2 ^ 64
