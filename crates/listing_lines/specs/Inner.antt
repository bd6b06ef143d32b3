-- What the inner functions of the listing ask for and ensure: text put into a buffer, and the lines as the stored tree gives them.
use Rattle.std.specs.Prelude.{ℕ, ◌+◌, ◌≤◌, ◌≡◌, Bool, true, false, List, [], ◌∷◌, ◌++◌, map, length, take}
use Rattle.blake2b.specs.Hash.{node_hash}
use Rattle.byte_strings.specs.Lists.{run, joined, Bytes}
use Rattle.tree_index.specs.Tree.{filled, roots, entries}
use Rattle.file_format.specs.Headers.{signatures_header}
use Rattle.file_format.specs.Stored.{stored_size, stored_start}
use Rattle.file_format.specs.Slots.{all_held, Within}
use Rattle.file_format.specs.Belongs.{Register, Belongs}
use Rattle.listing_lines.specs.Input.{Input, other, chunks, before}
use Rattle.listing_lines.specs.Lines.{decimal, chunks_word, bytes_word, roots_word, hole_word, line, kind_word, first_under}

-- a text of at most k bytes put at a place of a buffer: r is the place behind it, and what was before it is still there
pub record Put (before : List ℕ) (at k : ℕ) (text : List ℕ) (r : ℕ) (after : List ℕ) : Type 0 where
  pub few : length text ≤ k
  pub next : r ≡ at + length text
  pub front : take r after ≡ take at before ++ text
  pub same : length after ≡ length before

-- the leaf lengths of n chunks stand in a tree file, and together are no more than 4,096
pub record Printable (tree : List ℕ) (n : ℕ) : Type 0 where
  pub few : n ≤ 64
  pub room : 5120 ≤ length tree
  pub small : (j : ℕ) → j ≤ n → stored_start tree j ≤ 4096

-- the roots of the first line
unfoldable pub roots_of : ℕ → List ℕ
roots_of n = joined (map (λ i. 32 ∷ decimal i) (roots n))

-- the first line of n chunks with `size` bytes
unfoldable pub first_of : ℕ → ℕ → List ℕ
first_of n size = chunks_word ++ (decimal n ++ (bytes_word ++ (decimal size ++ (roots_word ++ (roots_of n ++ (10 ∷ []))))))

-- the line of the entry i, with start and length as they are stored
unfoldable pub stored_line : List ℕ → ℕ → ℕ → List ℕ
stored_line tree n i =
    elim (filled n i)
    [ true ↦ line i (kind_word i) (stored_start tree (first_under i)) (stored_size tree i) | false ↦ line i hole_word 0 0 ]

unfoldable pub stored_entries : List ℕ → ℕ → List ℕ
stored_entries tree n = joined (run (stored_line tree n) 0 (entries n))

unfoldable pub stored_lines : List ℕ → ℕ → ℕ → List ℕ
stored_lines tree n size = first_of n size ++ stored_entries tree n

-- a register on the listing's buffers that belongs to the chunks cs and has all of their signatures
pub record Ready (r : Register) (cs : List (List ℕ)) : Type 0 where
  pub within : Within (all_held cs)
  pub belongs : Belongs node_hash r (all_held cs)
  pub paid : r.s ≡ r.n
  pub front : take 32 r.signatures ≡ signatures_header
  pub tree : length r.tree ≡ 5120
  pub signatures : length r.signatures ≡ 4160
  pub bitfield : length r.bitfield ≡ 3360
  pub content : length r.content ≡ 4096

-- the lengths of the listing's buffers: 64 chunks with 4,096 bytes and their signatures
pub record Rooms (t s b d : List ℕ) : Type 0 where
  pub tree : length t ≡ 5120
  pub signatures : length s ≡ 4160
  pub bitfield : length b ≡ 3360
  pub content : length d ≡ 4096

-- lists of chunks before what is read behind them
unfoldable pub behind : List (List ℕ) → Input → Input
behind [] i = i
behind (c ∷ cs) i = before c (behind cs i)

-- one more chunk: what belonged to cs then belongs to cs and the chunk
pub record Adds (r : Register) (c : List ℕ) (left : Register) : Type 0 where
  pub grows : Bytes c → (cs : List (List ℕ)) → Ready r cs → Ready left (cs ++ (c ∷ []))

-- n chunks with `size` bytes are read, and what is read behind them is `rest`
pub record Reading (whole rest : Input) (r : Register) : Type 0 where
  pub cs : List (List ℕ)
  pub ready : Ready r cs
  pub same : whole ≡ behind cs rest

-- what reading an input gives: that it is other input, or a register that belongs to its chunks
pub record Read (input : Input) (read : Bool) (r : Register) : Type 0 where
  pub refused : read ≡ false → input ≡ other
  pub taken : read ≡ true → Reading input (chunks []) r
  pub few : r.n ≤ 64
  pub small : r.size ≤ 4096
