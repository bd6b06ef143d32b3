-- What the inner functions require and ensure.
use Rattle.std.specs.Prelude.{ℕ, ◌+◌, ◌*◌, ◌/◌, ◌≤◌, ◌≡◌, List, length}
use Rattle.bitfield.specs.Image.{entry_count}
use Rattle.bitfield.specs.Append.{bits_place}
use Rattle.file_format.specs.Sizes.{most_chunks}
use Rattle.search.specs.Search.{stored_tuples, stored_tuple}

-- the bitfield entries of the chunks below `end` lie in the file
abbrev pub DataIn : List ℕ → ℕ → Type 0
DataIn xs end = bits_place (entry_count end) ≤ length xs

-- the chunks from `from` up to `end` are of one group, whose tuple is given
pub record InGroup (xs : List ℕ) (tuple from end : ℕ) : Type 0 where
  pub room : DataIn xs end
  pub same : end ≤ (from / 16 + 1) * 16
  pub is : tuple ≡ stored_tuple xs (from / 16)

-- they are of one run, whose tuples are given
pub record InRun (xs : List ℕ) (tuples from end : ℕ) : Type 0 where
  pub room : DataIn xs end
  pub few : end ≤ most_chunks
  pub same : end ≤ (from / 64 + 1) * 64
  pub is : tuples ≡ stored_tuples xs (from / 64)
