-- The listing's input: "a 4-byte count (at most 64) and for each chunk a 4-byte length and its bytes (chunk bytes at most 4,096 together)".
use Rattle.std.specs.Prelude.{ℕ, zero, suc, ◌+◌, ◌-◌, Bool, true, false, ◌&&◌, List, [], ◌∷◌, length, drop, leb, eqb}
use Rattle.byte_strings.specs.Lists.{part}
use Rattle.byte_strings.specs.Numbers.{number}

-- a chunk sequence, or other input
pub data Input : Type 0 where
  other : Input
  chunks : List (List ℕ) → Input

-- a chunk before those that follow
abbrev pub before : List ℕ → Input → Input
before c other = other
before c (chunks cs) = chunks (c ∷ cs)

-- the next chunk's length
unfoldable pub next_length : List ℕ → ℕ
next_length xs = number (part xs 0 4)

-- whether a chunk stands at the front: its 4-byte length, at most the `left` bytes that are left of 4,096, and as many bytes
unfoldable pub chunk_stands : List ℕ → ℕ → Bool
chunk_stands xs left = leb 4 (length xs) && (leb (next_length xs) left && leb (4 + next_length xs) (length xs))

-- k chunks and nothing behind them: "surplus bytes included" is other input
unfoldable pub chunks_in : ℕ → List ℕ → ℕ → Input
chunks_in zero xs left = elim (eqb (length xs) 0) [ true ↦ chunks [] | false ↦ other ]
chunks_in (suc k) xs left =
    elim (chunk_stands xs left) [
      | true ↦ before (part xs 4 (next_length xs)) (chunks_in k (drop (4 + next_length xs) xs) (left - next_length xs))
      | false ↦ other
    ]

unfoldable pub input_of : List ℕ → Input
input_of xs =
    elim (leb 4 (length xs) && leb (number (part xs 0 4)) 64)
    [ true ↦ chunks_in (number (part xs 0 4)) (drop 4 xs) 4096 | false ↦ other ]
