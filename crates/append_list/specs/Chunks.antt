-- A list of chunks as it is lent: their lengths, and their bytes one behind the other.
use Rattle.std.specs.Prelude.{ℕ, List, [], ◌∷◌, take, drop, replicate}
use Rattle.byte_strings.specs.Lists.{zeros}

-- the chunks of these lengths, cut out of the bytes from the front
unfoldable pub chunks_of : List ℕ → List ℕ → List (List ℕ)
chunks_of [] bytes = []
chunks_of (l ∷ lengths) bytes = take l bytes ∷ chunks_of lengths (drop l bytes)

-- "The set's earlier signature entries are written as 64 zero bytes": k of them
abbrev pub zero_signatures : ℕ → List (List ℕ)
zero_signatures k = replicate k (zeros 64)
