-- The Index as the code makes it: first the bytes of the data, then level by level the bytes that combine two. The law that this is
-- the Index of `Index` is `levels` in proofs/Levels.
use Rattle.std.specs.Prelude.{ℕ, ◌+◌, ◌-◌, ◌*◌, ◌/◌, ◌%◌, Bool, true, false, ◌&&◌, List, [], ◌∷◌, get_or, eqb, ltb}
use Rattle.byte_strings.specs.Lists.{run, joined}
use Rattle.bitfield.specs.Index.{tuples, combined}

-- a byte of four tuples and a place for the level above, k times
unfoldable pub leaves : List ℕ → ℕ → List ℕ
leaves d k = joined (run (λ j. tuples d j ∷ 0 ∷ []) 0 k)

abbrev pub pick : Bool → ℕ → ℕ → ℕ
pick true a b = a
pick false a b = b

-- whether the byte i is one of the first k of its level, which stand 4 half apart and half away from the two that they combine
unfoldable pub among_first : ℕ → ℕ → ℕ → Bool
among_first half k i = eqb ((i + 1) % (4 * half)) (2 * half) && ltb ((i + 1) / (4 * half)) k

-- one byte once the first k of its level are made
unfoldable pub level_byte : List ℕ → ℕ → ℕ → ℕ → ℕ
level_byte xs half k i =
    pick (among_first half k i) (combined (get_or xs (i - half) 0) (get_or xs (i + half) 0)) (get_or xs i 0)

-- all 256
unfoldable pub level : List ℕ → ℕ → ℕ → List ℕ
level xs half k = run (level_byte xs half k) 0 256
