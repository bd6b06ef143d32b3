-- The Index of a bitfield entry: an in-order tree over its data bytes.
use Rattle.std.specs.Prelude.{ℕ, zero, suc, ◌+◌, ◌*◌, ◌/◌, ◌%◌, Bool, true, false, ◌&&◌, List, [], ◌∷◌, ◌++◌, get_or, eqb}
use Rattle.byte_strings.specs.Lists.{run}
use Rattle.tree_index.specs.Tree.{depth, block}

-- 11 (3) where all is ones, 00 (0) where all is zeros, else 10 (2)
abbrev pub uniform : Bool → Bool → ℕ
uniform true z = 3
uniform false true = 0
uniform false false = 2

-- "Each 2 data bytes give a tuple: 11 if all ones, 00 if all zeros, else 10."
unfoldable pub tuple : ℕ → ℕ → ℕ
tuple a b = uniform (eqb a 255 && eqb b 255) (eqb a 0 && eqb b 0)

-- four tuples in a byte, "first tuple highest"
unfoldable pub four : ℕ → ℕ → ℕ → ℕ → ℕ
four t u v w = 64 * t + 16 * u + 4 * v + w

-- "Index byte 2k holds the four tuples of data bytes 8k to 8k + 7"
unfoldable pub tuples : List ℕ → ℕ → ℕ
tuples d k =
    four (tuple (get_or d (8 * k) 0) (get_or d (8 * k + 1) 0)) (tuple (get_or d (8 * k + 2) 0) (get_or d (8 * k + 3) 0))
    (tuple (get_or d (8 * k + 4) 0) (get_or d (8 * k + 5) 0)) (tuple (get_or d (8 * k + 6) 0) (get_or d (8 * k + 7) 0))

-- "equal 11 or equal 00 is kept, all else is 10"
unfoldable pub combine : ℕ → ℕ → ℕ
combine t u = uniform (eqb t 3 && eqb u 3) (eqb t 0 && eqb u 0)

-- "An odd Index byte combines its in-order children tuple by tuple at the same position"
unfoldable pub combined : ℕ → ℕ → ℕ
combined x y =
    four (combine (x / 64) (y / 64)) (combine (x / 16 % 4) (y / 16 % 4)) (combine (x / 4 % 4) (y / 4 % 4))
    (combine (x % 4) (y % 4))

-- the Index byte of the block k of 2^d runs of eight data bytes
unfoldable pub node : List ℕ → ℕ → ℕ → ℕ
node d zero k = tuples d k
node d (suc h) k = combined (node d h (2 * k)) (node d h (2 * k + 1))

-- the Index byte at place i
unfoldable pub index_byte : List ℕ → ℕ → ℕ
index_byte d i = node d (depth i) (block i)

-- the 256 Index bytes of 1,024 data bytes: "Byte 255 is 0."
unfoldable pub index_bytes : List ℕ → List ℕ
index_bytes d = run (index_byte d) 0 255 ++ (0 ∷ [])
