-- The lengths of a list of chunks.
use Rattle.std.specs.Prelude.{ℕ, Bool, true, ◌&&◌, List, [], ◌∷◌, leb}
use Rattle.file_format.specs.Sizes.{longest_chunk}

-- "16 a list above 256"
abbrev pub most_listed : ℕ
most_listed = 256

-- "7 a length above 65,536": none of the lengths is
unfoldable pub all_short : List ℕ → Bool
all_short [] = true
all_short (l ∷ ls) = leb l longest_chunk && all_short ls
