-- The declared message block as a list, and the declared counter as a number.
use Rattle.std.specs.Prelude.{ℕ, ◌+◌, ◌*◌, ◌^◌, List, [], ◌∷◌}
use Rattle.blake2b_compression.specs.declared.Block.{Block}
use Rattle.blake2b_compression.specs.declared.Counter.{Counter}

-- the message block: sixteen words
abbrev pub block_words : Block → List ℕ
block_words m =
    m.m0 ∷ m.m1 ∷ m.m2 ∷ m.m3 ∷ m.m4 ∷ m.m5 ∷ m.m6 ∷ m.m7 ∷ m.m8 ∷ m.m9 ∷ m.m10 ∷ m.m11 ∷ m.m12
    ∷ m.m13 ∷ m.m14 ∷ m.m15 ∷ []

-- the offset counter: 128 bits in two words
abbrev pub counted : Counter → ℕ
counted t = t.low + 2 ^ 64 * t.high
