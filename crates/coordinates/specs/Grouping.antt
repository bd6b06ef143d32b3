-- "Outlines are lists of 4-byte big-endian coordinates, and the office's viewer wants similar bytes together."
use Rattle.std.specs.Prelude.{ℕ, zero, suc, ◌+◌, ◌-◌, ◌*◌, ◌/◌, ◌%◌, ◌^◌, List, ◌++◌, length, drop, slice_index}
use Rattle.byte_strings.specs.Lists.{part, run, joined}
use Rattle.byte_strings.specs.Numbers.{be, number}

-- how many whole words there are, and word i
unfoldable pub count : List ℕ → ℕ
count d = length d / 4

unfoldable pub word : List ℕ → ℕ → ℕ
word d i = number (part d (4 * i) 4)

-- the words w 0, w 1, .., n of them, in 4 bytes each
unfoldable pub words : (ℕ → ℕ) → ℕ → List ℕ
words w n = joined (run (λ i. be 4 (w i)) 0 n)

-- "Replace each word but the first by its difference from the word before, modulo 2^32": the word before as it was in the input
unfoldable pub difference : List ℕ → ℕ → ℕ
difference d zero = word d zero
difference d (suc i) = (word d (suc i) + 2 ^ 32 - word d i) % 2 ^ 32

-- byte k of each of the words w 0, w 1, .., n of them; byte 0 is the highest
unfoldable pub plane : (ℕ → ℕ) → ℕ → ℕ → List ℕ
plane w n k = run (λ i. slice_index (be 4 (w i)) k) 0 n

-- "then write all first bytes, all second bytes, and so on"
unfoldable pub planes : (ℕ → ℕ) → ℕ → List ℕ
planes w n = joined (run (plane w n) 0 4)

-- "up to 3 remaining bytes follow unchanged"
unfoldable pub remaining : List ℕ → List ℕ
remaining d = drop (4 * count d) d

unfoldable pub grouped : List ℕ → List ℕ
grouped d = planes (difference d) (count d) ++ remaining d

-- "Give the inverse.": the word whose bytes stand at place i of the four planes
unfoldable pub gathered : List ℕ → ℕ → ℕ
gathered g i = number (run (λ k. slice_index g (k * count g + i)) 0 4)

-- the first word stands there as it was; each other is the word before it and its difference from that, modulo 2^32
unfoldable pub restored : List ℕ → ℕ → ℕ
restored g zero = gathered g zero
restored g (suc i) = (restored g i + gathered g (suc i)) % 2 ^ 32

unfoldable pub ungrouped : List ℕ → List ℕ
ungrouped g = words (restored g) (count g) ++ remaining g
