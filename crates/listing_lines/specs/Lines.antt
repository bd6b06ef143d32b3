-- The listing's lines: "a line of counts and roots, then per tree entry: tree index, kind, start, length (0 0 for a hole)".
use Rattle.std.specs.Prelude.{ℕ, zero, suc, ◌+◌, ◌*◌, ◌/◌, ◌%◌, ◌^◌, true, false, List, [], ◌∷◌, ◌++◌, map, length, take}
use Rattle.byte_strings.specs.Lists.{part, run, joined}
use Rattle.tree_index.specs.Tree.{depth, block, filled, roots, entries}
use Rattle.file_format.specs.Images.{data_size}
use Rattle.listing_lines.specs.Input.{Input, other, chunks, input_of}

-- a number in decimal, of at most k digits
unfoldable pub digits : ℕ → ℕ → List ℕ
digits zero x = []
digits (suc k) x = elim (x / 10) [ zero ↦ (48 + x % 10) ∷ [] | suc q ↦ digits k (x / 10) ++ ((48 + x % 10) ∷ []) ]

-- a number in decimal; those of a listing have at most 4 digits
abbrev pub decimal : ℕ → List ℕ
decimal x = digits 20 x

-- the words of a line, in ASCII, each with the spaces about it
unfoldable pub chunks_word : List ℕ
chunks_word = 99 ∷ 104 ∷ 117 ∷ 110 ∷ 107 ∷ 115 ∷ 32 ∷ []

unfoldable pub bytes_word : List ℕ
bytes_word = 32 ∷ 98 ∷ 121 ∷ 116 ∷ 101 ∷ 115 ∷ 32 ∷ []

unfoldable pub roots_word : List ℕ
roots_word = 32 ∷ 114 ∷ 111 ∷ 111 ∷ 116 ∷ 115 ∷ []

unfoldable pub leaf_word : List ℕ
leaf_word = 32 ∷ 108 ∷ 101 ∷ 97 ∷ 102 ∷ 32 ∷ []

unfoldable pub parent_word : List ℕ
parent_word = 32 ∷ 112 ∷ 97 ∷ 114 ∷ 101 ∷ 110 ∷ 116 ∷ 32 ∷ []

unfoldable pub hole_word : List ℕ
hole_word = 32 ∷ 104 ∷ 111 ∷ 108 ∷ 101 ∷ 32 ∷ []

-- "refused input" and a newline
unfoldable pub refused_line : List ℕ
refused_line = 114 ∷ 101 ∷ 102 ∷ 117 ∷ 115 ∷ 101 ∷ 100 ∷ 32 ∷ 105 ∷ 110 ∷ 112 ∷ 117 ∷ 116 ∷ 10 ∷ []

-- the first line; "without chunks the first line ends with `roots`"
unfoldable pub first_line : List (List ℕ) → List ℕ
first_line cs =
    chunks_word ++ (decimal (length cs)
    ++ (bytes_word ++ (decimal (data_size cs) ++ (roots_word ++ (joined (map (λ i. 32 ∷ decimal i) (roots (length cs))) ++ (10 ∷ []))))))

-- the first chunk under tree index i, and how many chunks are under it
unfoldable pub first_under : ℕ → ℕ
first_under i = block i * 2 ^ depth i

unfoldable pub count_under : ℕ → ℕ
count_under i = 2 ^ depth i

-- "A parent's start is that of its first leaf"
unfoldable pub start_of : List (List ℕ) → ℕ → ℕ
start_of cs i = data_size (take (first_under i) cs)

unfoldable pub length_of : List (List ℕ) → ℕ → ℕ
length_of cs i = data_size (part cs (first_under i) (count_under i))

-- a line of a tree entry: index, kind, start, length
unfoldable pub line : ℕ → List ℕ → ℕ → ℕ → List ℕ
line i word start len = decimal i ++ (word ++ (decimal start ++ (32 ∷ (decimal len ++ (10 ∷ [])))))

unfoldable pub kind_word : ℕ → List ℕ
kind_word i = elim (depth i) [ zero ↦ leaf_word | suc d ↦ parent_word ]

unfoldable pub entry_line : List (List ℕ) → ℕ → List ℕ
entry_line cs i =
    elim (filled (length cs) i)
    [ true ↦ line i (kind_word i) (start_of cs i) (length_of cs i) | false ↦ line i hole_word 0 0 ]

unfoldable pub lines_of : List (List ℕ) → List ℕ
lines_of cs = first_line cs ++ joined (run (entry_line cs) 0 (entries (length cs)))

unfoldable pub lines_for : Input → List ℕ
lines_for other = refused_line
lines_for (chunks cs) = lines_of cs

-- what the listing prints for an input
unfoldable pub listing : List ℕ → List ℕ
listing xs = lines_for (input_of xs)
