-- Starts where lengths need not add up to a number that fits: before 6 is known of a copy, and of the leaves before 10 is.
use Rattle.std.specs.Prelude.{ℕ, cond, leb}

-- the largest number that fits
abbrev pub most : ℕ
most = 18446744073709551615

-- a start is told up to it
unfoldable pub capped : ℕ → ℕ
capped x = cond (leb x most) x most
