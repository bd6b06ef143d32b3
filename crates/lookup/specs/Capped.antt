-- The ending of a descent where the lengths of the roots need not add up to a number that fits: the audit of a copy passes over 6 while a root is unknown.
use Rattle.std.specs.Prelude.{ℕ, ◌+◌, ◌≤◌, ◌≡◌}
use Rattle.checks.specs.Capped.{capped}
use Rattle.lookup.specs.Descent.{Ending, stopped, reached, unknown}
use Rattle.lookup.specs.Inner.{within_of}
use Rattle.lookup.specs.declared.descent.Sought.{Sought}
use Rattle.lookup.specs.declared.descent.Sought.TheVariants.{Chunk, Byte}

-- a start is told up to the largest number that fits
unfoldable pub capped_ending : Ending → Ending
capped_ending (stopped i) = stopped i
capped_ending (reached k start) = reached k (capped start)
capped_ending (unknown i) = unknown i

-- the same ending where all bytes begin so many further on
unfoldable pub moved_by : ℕ → Ending → Ending
moved_by s (stopped i) = stopped i
moved_by s (reached k start) = reached k (s + start)
moved_by s (unknown i) = unknown i

-- what is sought lies behind so many bytes
abbrev pub Passed : Sought → ℕ → Type 0
Passed (Chunk c) size = Unit {0}
Passed (Byte b) size = size ≤ b.0

-- what is sought, told from there on
abbrev pub Behind : Sought → ℕ → Sought → Type 0
Behind q size r = (d k s z : ℕ) → within_of r d k s z ≡ within_of q d k (size + s) z
