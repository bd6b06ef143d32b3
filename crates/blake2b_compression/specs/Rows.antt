-- The working vector as four rows, with a word for each column, and the two halves of a round.
use Rattle.std.specs.Prelude.{ℕ, ◌+◌, ◌%◌, ◌^◌, List, [], ◌∷◌, bit_xor}
use Rattle.blake2b_compression.specs.Mixing.{rotr, G}
use Rattle.blake2b_compression.specs.declared.mixing.Row.{Row}
use Rattle.blake2b_compression.specs.declared.mixing.Rows.{Rows}

-- the vector of the rows a, b, c, d
abbrev pub vector : Row → Row → Row → Row → List ℕ
vector a b c d =
    a.0 ∷ a.1 ∷ a.2 ∷ a.3 ∷ b.0 ∷ b.1 ∷ b.2 ∷ b.3 ∷ c.0 ∷ c.1 ∷ c.2 ∷ c.3 ∷ d.0 ∷ d.1 ∷ d.2 ∷ d.3 ∷ []

abbrev pub vector_of : Rows → List ℕ
vector_of v = vector v.a v.b v.c v.d

-- what the standard's statements do with words, done with each word of a row
abbrev pub sums : Row → Row → Row
sums a b = ((a.0 + b.0) % 2 ^ 64, (a.1 + b.1) % 2 ^ 64, (a.2 + b.2) % 2 ^ 64, (a.3 + b.3) % 2 ^ 64)

abbrev pub sums3 : Row → Row → Row → Row
sums3 a b c =
    ((a.0 + b.0 + c.0) % 2 ^ 64, (a.1 + b.1 + c.1) % 2 ^ 64, (a.2 + b.2 + c.2) % 2 ^ 64, (a.3 + b.3 + c.3) % 2 ^ 64)

abbrev pub xors : Row → Row → Row
xors a b = (bit_xor a.0 b.0, bit_xor a.1 b.1, bit_xor a.2 b.2, bit_xor a.3 b.3)

abbrev pub rotrs : Row → ℕ → Row
rotrs a n = (rotr a.0 n, rotr a.1 n, rotr a.2 n, rotr a.3 n)

-- the first four mixings of a round, of the columns, with the words of the rows x and y
unfoldable pub columns : List ℕ → Row → Row → List ℕ
columns v₀ x y =
    let v₁ : List ℕ = G v₀ 0 4 8 12 x.0 y.0 in
    let v₂ : List ℕ = G v₁ 1 5 9 13 x.1 y.1 in
    let v₃ : List ℕ = G v₂ 2 6 10 14 x.2 y.2 in
    G v₃ 3 7 11 15 x.3 y.3

-- the last four, of the diagonals
unfoldable pub diagonals : List ℕ → Row → Row → List ℕ
diagonals v₀ x y =
    let v₁ : List ℕ = G v₀ 0 5 10 15 x.0 y.0 in
    let v₂ : List ℕ = G v₁ 1 6 11 12 x.1 y.1 in
    let v₃ : List ℕ = G v₂ 2 7 8 13 x.2 y.2 in
    G v₃ 3 4 9 14 x.3 y.3
