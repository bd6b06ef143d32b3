-- Ranges of numbers, each from a on and before b.
use Rattle.std.specs.Prelude.{ℕ, ◌-◌, cond, ltb}

-- the lower of two numbers
abbrev pub lesser : ℕ → ℕ → ℕ
lesser a b = cond (ltb a b) a b

-- how many of the k numbers from 0 on stand in the range from a on and before b: none where it is empty, turned round or outside
abbrev pub within : ℕ → ℕ → ℕ → ℕ
within k a b = lesser b k - a
