-- The three headers.
use Rattle.std.specs.Prelude.{ℕ, ◌-◌, List, [], ◌∷◌, ◌++◌, length}
use Rattle.byte_strings.specs.Lists.{zeros}
use Rattle.byte_strings.specs.Numbers.{be}

-- "4 bytes magic, 1 version (0), 2 entry size, 1 name length, name"
unfoldable pub front : ℕ → ℕ → List ℕ → List ℕ
front magic size name = be 4 magic ++ ((0 ∷ []) ++ (be 2 size ++ ((length name ∷ []) ++ name)))

-- "A header is 32 bytes: .. zeros to the end"
unfoldable pub header : ℕ → ℕ → List ℕ → List ℕ
header magic size name = front magic size name ++ zeros (32 - length (front magic size name))

-- the table: bitfield, magic 05025700, entry 3328, no name; and "24 zeros follow the name length"
unfoldable pub bitfield_header : List ℕ
bitfield_header = header 0x05025700 3328 []

-- the table: signatures, magic 05025701, entry 64, name Ed25519
unfoldable pub signatures_header : List ℕ
signatures_header = header 0x05025701 64 (69 ∷ 100 ∷ 50 ∷ 53 ∷ 53 ∷ 49 ∷ 57 ∷ [])

-- the table: tree, magic 05025702, entry 40, name BLAKE2b
unfoldable pub tree_header : List ℕ
tree_header = header 0x05025702 40 (66 ∷ 76 ∷ 65 ∷ 75 ∷ 69 ∷ 50 ∷ 98 ∷ [])
