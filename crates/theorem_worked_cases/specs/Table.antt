-- "[T] marks cases proved of the definitions, all of them rows of one table that a sole statement covers"; the requests' worked cases stand with them.
use Rattle.std.specs.Prelude.{ℕ, ◌+◌, ◌≡◌, cond, List, [], ◌∷◌, ◌++◌, map, length, get_or}
use Rattle.answer_types.specs.Verdict.{none}
use Rattle.tree_index.specs.Tree.{roots, parent, left_child, right_child, filled, entries, filled_by}
use Rattle.bitfield.specs.Image.{data_bytes, held_below}
use Rattle.bitfield.specs.Index.{index_bytes}
use Rattle.byte_strings.specs.Lists.{run, zeros, joined}
use Rattle.byte_strings.specs.Numbers.{be}
use Rattle.file_format.specs.Sizes.{used_bitfield}
use Rattle.file_format.specs.Images.{tree_image, signatures_image, data_image, data_size, bitfield_image}
use Rattle.file_format.specs.Slots.{all_held, held_in}
use Rattle.file_format.specs.Belongs.{Register}
use Rattle.append_needs.specs.Needs.{leaf_runs}
use Rattle.lookup.specs.Lookup.{Found, refusal, found, byte_at}
use Rattle.listing_lines.specs.Lines.{listing}

-- what a definition gives: numbers, or a lookup's answer, whose refusal has its place
pub data Shown : Type 0 where
  numbers : List ℕ → Shown
  answer : Found → Shown

-- a case: what a definition gives, and what the scope prints
pub record Row : Type 0 where
  pub given : Shown
  pub printed : Shown

abbrev pub row : List ℕ → List ℕ → Row
row given printed = record { given = numbers given; printed = numbers printed }

abbrev pub looked_up : Found → Found → Row
looked_up given printed = record { given = answer given; printed = answer printed }

-- the tree indexes that are filled among n + 1 chunks and not among n
unfoldable pub newly_filled : ℕ → List ℕ
newly_filled n = joined (run (λ i. cond (filled (n + 1) i) (cond (filled n i) [] (i ∷ [])) []) 0 (entries (n + 1)))

-- Index bytes of the first entry of a register of n chunks, at the places is
unfoldable pub index_of : ℕ → List ℕ → List ℕ
index_of n is = let bytes : List ℕ = index_bytes (data_bytes (held_below n) 0) in map (λ i. get_or bytes i 0) is

-- the chunks AB, empty and CDE, of the lengths 2, 0, 3
unfoldable pub three : List (List ℕ)
three = (65 ∷ 66 ∷ []) ∷ [] ∷ (67 ∷ 68 ∷ 69 ∷ []) ∷ []

-- a register that belongs to chunks, all of them held, with as many zero signatures. No case here reads a hash, so zeros stand for each
unfoldable pub register_of : List (List ℕ) → Register
register_of cs =
    record {
      tree = tree_image (λ d. zeros 32) (all_held cs);
      signatures = signatures_image (run (λ i. zeros 64) 0 (length cs));
      bitfield = bitfield_image (held_in (all_held cs)) (length cs);
      content = data_image cs;
      n = length cs;
      s = length cs;
      size = data_size cs;
    }

-- the listing's input for chunks
unfoldable pub input_for : List (List ℕ) → List ℕ
input_for cs = be 4 (length cs) ++ joined (map (λ c. be 4 (length c) ++ c) cs)

-- chunks 3 bytes 5 roots 1 4, 0 leaf 0 2, 1 parent 0 2, 2 leaf 2 0, 3 hole 0 0, 4 leaf 2 3: a line each, in ASCII
unfoldable pub printed_lines : List ℕ
printed_lines =
    99 ∷ 104 ∷ 117 ∷ 110 ∷ 107 ∷ 115 ∷ 32 ∷ 51 ∷ 32 ∷ 98 ∷ 121 ∷ 116 ∷ 101 ∷ 115 ∷ 32 ∷ 53 ∷ 32 ∷ 114 ∷ 111 ∷ 111 ∷ 116 ∷ 115 ∷ 32 ∷ 49 ∷ 32 ∷ 52 ∷ 10
    ∷ 48 ∷ 32 ∷ 108 ∷ 101 ∷ 97 ∷ 102 ∷ 32 ∷ 48 ∷ 32 ∷ 50 ∷ 10
    ∷ 49 ∷ 32 ∷ 112 ∷ 97 ∷ 114 ∷ 101 ∷ 110 ∷ 116 ∷ 32 ∷ 48 ∷ 32 ∷ 50 ∷ 10
    ∷ 50 ∷ 32 ∷ 108 ∷ 101 ∷ 97 ∷ 102 ∷ 32 ∷ 50 ∷ 32 ∷ 48 ∷ 10
    ∷ 51 ∷ 32 ∷ 104 ∷ 111 ∷ 108 ∷ 101 ∷ 32 ∷ 48 ∷ 32 ∷ 48 ∷ 10
    ∷ 52 ∷ 32 ∷ 108 ∷ 101 ∷ 97 ∷ 102 ∷ 32 ∷ 50 ∷ 32 ∷ 51 ∷ 10 ∷ []

unfoldable pub table : List Row
table =
    -- "Roots for n = 0: none. n = 1: 0. n = 2: 1. n = 3: 1, 4."
    row (roots 0) [] ∷ row (roots 1) (0 ∷ []) ∷ row (roots 2) (1 ∷ []) ∷ row (roots 3) (1 ∷ 4 ∷ [])
    -- "n = 6: 3, 9. n = 7: 3, 9, 12. n = 8: 7."
    ∷ row (roots 6) (3 ∷ 9 ∷ []) ∷ row (roots 7) (3 ∷ 9 ∷ 12 ∷ []) ∷ row (roots 8) (7 ∷ [])
    -- "Parent of 2 is 1, of 5 is 3; children of 3 are 1 and 5."
    ∷ row (parent 2 ∷ parent 5 ∷ []) (1 ∷ 3 ∷ []) ∷ row (left_child 3 ∷ right_child 3 ∷ []) (1 ∷ 5 ∷ [])
    -- "Appending the fourth chunk fills tree indexes 5, 6 and 3.": from the leaf upward 6, 5, 3; and these alone are filled then and not before
    ∷ row (filled_by 3) (6 ∷ 5 ∷ 3 ∷ []) ∷ row (newly_filled 3) (3 ∷ 5 ∷ 6 ∷ [])
    -- "n = 10: Index bytes 0, 1, 3 are hex 80, 80, 80; byte 2 is 0."
    ∷ row (index_of 10 (0 ∷ 1 ∷ 3 ∷ 2 ∷ [])) (0x80 ∷ 0x80 ∷ 0x80 ∷ 0 ∷ [])
    -- "n = 16: byte 0 is C0, byte 1 is 80. n = 64: byte 0 is FF, byte 1 is AA. n = 128: bytes 0, 1, 2 are FF, byte 3 is AA."
    ∷ row (index_of 16 (0 ∷ 1 ∷ [])) (0xC0 ∷ 0x80 ∷ []) ∷ row (index_of 64 (0 ∷ 1 ∷ [])) (0xFF ∷ 0xAA ∷ [])
    ∷ row (index_of 128 (0 ∷ 1 ∷ 2 ∷ 3 ∷ [])) (0xFF ∷ 0xFF ∷ 0xFF ∷ 0xAA ∷ [])
    -- "Bitfield size for n = 0, 8192, 8193: 32, 3360, 6688."
    ∷ row (used_bitfield 0 ∷ used_bitfield 8192 ∷ used_bitfield 8193 ∷ []) (32 ∷ 3360 ∷ 6688 ∷ [])
    -- "Lengths 2, 0, 3: offset 1 gives chunk 0 and 1; offset 2 gives chunk 2 and 0"; "offset 5 becomes chunk 3 and 0", and "9 remains for larger
    -- offsets"
    ∷ looked_up (byte_at (register_of three) 1) (found 0 1) ∷ looked_up (byte_at (register_of three) 2) (found 2 0)
    ∷ looked_up (byte_at (register_of three) 5) (found 3 0) ∷ looked_up (byte_at (register_of three) 6) (refusal 9 none)
    -- "also in an empty register"; and behind empty chunks, of the lengths 1, 0, 0
    ∷ looked_up (byte_at (register_of []) 0) (found 0 0) ∷ looked_up (byte_at (register_of ((65 ∷ []) ∷ [] ∷ [] ∷ [])) 1) (found 3 0)
    -- "An empty chunk takes 1 run for its leaf, 119 bytes take 1, and 120 bytes take 2."
    ∷ row (map leaf_runs (0 ∷ 119 ∷ 120 ∷ [])) (1 ∷ 1 ∷ 2 ∷ [])
    -- "For the chunks AB, empty, CDE" the listing prints the six lines that `printed_lines` has
    ∷ row (listing (input_for three)) printed_lines ∷ []

-- the sole statement: every row gives what is printed, and there are 24
abbrev pub Holds : Type 0
Holds = (map (λ (r : Row). r.given) table ≡ map (λ (r : Row). r.printed) table) × (length table ≡ 24)
