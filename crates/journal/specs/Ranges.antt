-- The ranges of a change, and what writing them gives.
use Rattle.std.specs.Prelude.{ℕ, ◌+◌, ◌-◌, List, [], ◌∷◌, ◌++◌, true, false, length, eqb}
use Rattle.byte_strings.specs.Lists.{put, zeros}

-- a range of a file, with its offset
pub data Range : Type 0 where
  -- kind 1: old and new bytes
  replaced : ℕ → List ℕ → List ℕ → Range
  -- kind 2: new bytes alone
  fresh : ℕ → List ℕ → Range
  -- kind 3: a run of zeros, by its length
  blank : ℕ → ℕ → Range
  -- kind 4: bytes that stay, held and not written
  witness : ℕ → List ℕ → Range

-- the offset
abbrev pub start : Range → ℕ
start (replaced at o n) = at
start (fresh at n) = at
start (blank at k) = at
start (witness at w) = at

-- the bytes that stand there after the change
abbrev pub bytes : Range → List ℕ
bytes (replaced at o n) = n
bytes (fresh at n) = n
bytes (blank at k) = zeros k
bytes (witness at w) = w

-- the place behind a range
abbrev pub stop : Range → ℕ
stop r = start r + length (bytes r)

-- a range of one of the ten files
pub record Placed : Type 0 where
  pub file : ℕ
  pub range : Range

-- the ranges of the file i
unfoldable pub ranges_of : ℕ → List Placed → List Range
ranges_of i [] = []
ranges_of i (p ∷ ps) = elim (eqb p.file i) [ true ↦ p.range ∷ ranges_of i ps | false ↦ ranges_of i ps ]

-- a change of one file: its length before and after, and the ranges
pub record Change : Type 0 where
  pub old : ℕ
  pub new : ℕ
  pub ranges : List Range

-- one range written
unfoldable pub write : Range → List ℕ → List ℕ
write (replaced at o n) f = put f at n
write (fresh at n) f = put f at n
write (blank at k) f = put f at (zeros k)
write (witness at w) f = f

-- ranges written in their order
unfoldable pub write_all : List Range → List ℕ → List ℕ
write_all [] f = f
write_all (r ∷ rs) f = write_all rs (write r f)

-- a file brought to n bytes, with zeros behind
unfoldable pub grown : ℕ → List ℕ → List ℕ
grown n f = f ++ zeros (n - length f)

-- the file after the change
unfoldable pub applied : Change → List ℕ → List ℕ
applied c f = write_all c.ranges (grown c.new f)
