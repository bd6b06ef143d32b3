-- What a call that writes asks for besides the numbers 2 to 6, as facts: with them it is done, and without one of them it is refused.
use Rattle.std.specs.Prelude.{ℕ, ◌+◌, ◌≤◌, ◌<◌, ◌≡◌, List, length}
use Rattle.file_format.specs.Sizes.{most_chunks, longest_chunk, used_tree, used_signatures, used_bitfield}
use Rattle.file_format.specs.Belongs.{Buffers, Register}

-- a start, number 14: room for the three headers
pub record StartFits (b : Buffers) : Type 0 where
  pub tree : 32 ≤ length b.tree
  pub signatures : 32 ≤ length b.signatures
  pub bitfield : 32 ≤ length b.bitfield

-- an append
pub record AppendFits (r : Register) (chunk : List ℕ) : Type 0 where
  -- 2, "or an append finds n at 1,048,576"
  pub fewer : r.n < most_chunks
  -- 7
  pub short : length chunk ≤ longest_chunk
  -- 8, "An append finds s = n − 1"
  pub paid : r.s ≡ r.n
  -- 14, room for the result
  pub tree : used_tree (r.n + 1) ≤ length r.tree
  pub bitfield : used_bitfield (r.n + 1) ≤ length r.bitfield
  pub content : r.size + length chunk ≤ length r.content

-- a stored signature
pub record SignFits (r : Register) : Type 0 where
  -- 8, "a signature is offered while s = n"
  pub owed : r.s + 1 ≡ r.n
  -- 14
  pub room : used_signatures (r.s + 1) ≤ length r.signatures
