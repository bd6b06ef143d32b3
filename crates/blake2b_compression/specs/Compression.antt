-- RFC 7693, section 3.2: the compression function F.
use Rattle.std.specs.Prelude.{ℕ, zero, suc, ◌+◌, ◌-◌, ◌/◌, ◌%◌, ◌^◌, Bool, true, false, List, [], ◌∷◌, ◌++◌, set, bit_xor, slice_index_or, slice_set}
use Rattle.blake2b_compression.specs.Constants.{IV, SIGMA}
use Rattle.blake2b_compression.specs.Mixing.{at, G}

-- one round: the eight mixings with the block m, whose words the row s puts in order
unfoldable pub round : List ℕ → List ℕ → List ℕ → List ℕ
round s m v₀ =
    let v₁ : List ℕ = G v₀ 0 4 8 12 (at m (at s 0)) (at m (at s 1)) in
    let v₂ : List ℕ = G v₁ 1 5 9 13 (at m (at s 2)) (at m (at s 3)) in
    let v₃ : List ℕ = G v₂ 2 6 10 14 (at m (at s 4)) (at m (at s 5)) in
    let v₄ : List ℕ = G v₃ 3 7 11 15 (at m (at s 6)) (at m (at s 7)) in
    let v₅ : List ℕ = G v₄ 0 5 10 15 (at m (at s 8)) (at m (at s 9)) in
    let v₆ : List ℕ = G v₅ 1 6 11 12 (at m (at s 10)) (at m (at s 11)) in
    let v₇ : List ℕ = G v₆ 2 7 8 13 (at m (at s 12)) (at m (at s 13)) in
    G v₇ 3 4 9 14 (at m (at s 14)) (at m (at s 15))

-- the row of round r: SIGMA has ten rows, and rounds 10 and 11 begin again
unfoldable pub row : ℕ → List ℕ
row r = slice_index_or SIGMA (r % 10) []

-- the first r rounds
unfoldable pub rounds : ℕ → List ℕ → List ℕ → List ℕ
rounds zero m v = v
rounds (suc r) m v = round (row r) m (rounds r m v)

-- every bit of a word inverted
unfoldable pub inverted : ℕ → ℕ
inverted x = bit_xor x (2 ^ 64 - 1)

-- v[14] is inverted where the final flag f holds
abbrev pub flagged : Bool → ℕ → ℕ
flagged true x = inverted x
flagged false x = x

-- the working vector: the state, then IV with the offset counter t (low word, high word) and the final flag f put in
unfoldable pub start : List ℕ → ℕ → Bool → List ℕ
start h t f =
    let v : List ℕ = h ++ IV in
    let w : List ℕ = set v 12 (bit_xor (at v 12) (t % 2 ^ 64)) in
    let u : List ℕ = set w 13 (bit_xor (at w 13) (t / 2 ^ 64 % 2 ^ 64)) in
    slice_set u 14 (flagged f (at u 14))

-- h[i] ^ v[i] ^ v[i + 8]
abbrev pub folded : List ℕ → List ℕ → ℕ → ℕ
folded h v i = bit_xor (bit_xor (at h i) (at v i)) (at v (i + 8))

-- F of the state h with the block m, the offset counter t and the final flag f
unfoldable pub F : List ℕ → List ℕ → ℕ → Bool → List ℕ
F h m t f =
    let v : List ℕ = rounds 12 m (start h t f) in
    folded h v 0 ∷ folded h v 1 ∷ folded h v 2 ∷ folded h v 3 ∷ folded h v 4 ∷ folded h v 5 ∷ folded h v 6 ∷ folded h v 7 ∷ []
