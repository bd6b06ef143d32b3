-- The messages that are hashed, and what a tree entry holds.
use Rattle.std.specs.Prelude.{ℕ, ◌≡◌, List, ◌∷◌, ◌++◌, length}
use Rattle.byte_strings.specs.Lists.{joined, Bytes}
use Rattle.byte_strings.specs.Numbers.{be}

-- "a function F from byte strings to 32 bytes": asked of byte strings only, so that every such function is covered
pub record HashFunction (F : List ℕ → List ℕ) : Type 0 where
  pub size : (d : List ℕ) → Bytes d → length (F d) ≡ 32
  pub byte : (d : List ℕ) → Bytes d → Bytes (F d)

-- "Leaf hash: bytes 00, 8-byte chunk length, chunk"
unfoldable pub leaf_message : List ℕ → List ℕ
leaf_message c = 0 ∷ (be 8 (length c) ++ c)

-- "Parent hash: 01, 8-byte sum of both lengths, left hash, right hash"
unfoldable pub parent_message : ℕ → List ℕ → List ℕ → List ℕ
parent_message sum left right = 1 ∷ (be 8 sum ++ (left ++ right))

-- "for each root .. its hash, 8-byte tree index and 8-byte length"
unfoldable pub root_item : List ℕ → ℕ → ℕ → List ℕ
root_item hash i size = hash ++ (be 8 i ++ be 8 size)

-- "Root hash: 02, then for each root from the left" its item. "With n = 0 the message is 02 alone."
unfoldable pub root_message : List (List ℕ) → List ℕ
root_message items = 2 ∷ joined items
