-- What the inner functions ask and give.
use Rattle.std.specs.Prelude.{ℕ, ◌+◌, ◌*◌, ◌≤◌, ◌≡◌, true, List, length}
use Rattle.file_format.specs.Sizes.{most_chunks, longest_chunk}
use Rattle.checks.specs.Lengths.{most_listed, all_short}
use Rattle.append_needs.specs.Needs.{need_of}
use Rattle.append_needs.specs.Post.{numbers_of}
use Rattle.append_needs.specs.declared.Needed.{Needed}

-- a list that 16 and 7 let pass
pub record Listed (ls : List ℕ) : Type 0 where
  pub few : length ls ≤ most_listed
  pub short : all_short ls ≡ true

-- what all four numbers let pass
pub record Asked (n size : ℕ) (ls : List ℕ) : Type 0 where
  pub count : n + length ls ≤ most_chunks
  pub listed : Listed ls
  pub held : size ≤ longest_chunk * n

-- all that is given where nothing is refused
pub record Answered (n size : ℕ) (ls : List ℕ) (r : Needed) : Type 0 where
  pub numbers : numbers_of r ≡ need_of n size ls
  pub runs : r.runs ≡ r.leaves + r.parents + r.root
