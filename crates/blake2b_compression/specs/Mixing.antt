-- RFC 7693, section 3.1: the mixing function G.
use Rattle.std.specs.Prelude.{ℕ, ◌+◌, ◌-◌, ◌*◌, ◌/◌, ◌%◌, ◌^◌, List, set, bit_xor, slice_index, slice_set}

-- the word at index i of a vector
abbrev pub at : List ℕ → ℕ → ℕ
at v i = slice_index v i

-- section 2.3: x >>> n, the 64 bits of x rotated to the right by n: the low n bits go to the top
unfoldable pub rotr : ℕ → ℕ → ℕ
rotr x n = (x % 2 ^ n) * 2 ^ (64 - n) + x / 2 ^ n

-- G on the vector v at a, b, c, d with the words x and y, a line for each statement of the standard
unfoldable pub G : List ℕ → ℕ → ℕ → ℕ → ℕ → ℕ → ℕ → List ℕ
G v₀ a b c d x y =
    let v₁ : List ℕ = set v₀ a ((at v₀ a + at v₀ b + x) % 2 ^ 64) in
    let v₂ : List ℕ = set v₁ d (rotr (bit_xor (at v₁ d) (at v₁ a)) 32) in
    let v₃ : List ℕ = set v₂ c ((at v₂ c + at v₂ d) % 2 ^ 64) in
    let v₄ : List ℕ = set v₃ b (rotr (bit_xor (at v₃ b) (at v₃ c)) 24) in
    let v₅ : List ℕ = set v₄ a ((at v₄ a + at v₄ b + y) % 2 ^ 64) in
    let v₆ : List ℕ = set v₅ d (rotr (bit_xor (at v₅ d) (at v₅ a)) 16) in
    let v₇ : List ℕ = set v₆ c ((at v₆ c + at v₆ d) % 2 ^ 64) in
    slice_set v₇ b (rotr (bit_xor (at v₇ b) (at v₇ c)) 63)
