-- What the program over the listing lends: how much of the input is read, and the room for the lines. No contract can say what a program reads or
-- writes; these two numbers stand in its code, and here is what holds of them.
use Rattle.std.specs.Prelude.{ℕ, ◌+◌, ◌*◌, ◌≤◌, ◌≡◌, List, length, take}
use Rattle.listing_lines.specs.Input.{other, input_of}
use Rattle.listing_lines.specs.Lines.{listing}

-- "a 4-byte count (at most 64) and for each chunk a 4-byte length and its bytes (chunk bytes at most 4,096 together)", and one byte more
abbrev pub most_read : ℕ
most_read = 4 + 64 * 4 + 4096 + 1

-- room for the lines of every input
abbrev pub most_listed : ℕ
most_listed = 9371

-- (that every listing fits is in the contract of `list`: Post, `Listed`)
pub record Limits : Type 0 where
  -- an input of so many bytes or more is other input, whatever they are
  pub longer : (xs : List ℕ) → most_read ≤ length xs → input_of xs ≡ other
  -- so the first of them tell what is listed of all
  pub cut : (xs : List ℕ) → listing (take most_read xs) ≡ listing xs
