-- "All multi-byte file numbers are big-endian."
use Rattle.std.specs.Prelude.{ℕ, zero, suc, ◌+◌, ◌*◌, ◌/◌, ◌%◌, List, [], ◌∷◌, ◌++◌}

-- the number x in k bytes, the highest byte first
unfoldable pub be : ℕ → ℕ → List ℕ
be zero x = []
be (suc k) x = be k (x / 256) ++ (x % 256 ∷ [])

-- the number that bytes stand for behind the number a, the highest byte first
unfoldable pub number_from : ℕ → List ℕ → ℕ
number_from a [] = a
number_from a (x ∷ xs) = number_from (a * 256 + x) xs

-- the number that bytes stand for, the highest byte first
unfoldable pub number : List ℕ → ℕ
number xs = number_from 0 xs
