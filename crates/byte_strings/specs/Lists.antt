-- A part of a list, bytes put at a place, runs of values, and sums.
use Rattle.std.specs.Prelude.{ℕ, zero, suc, ◌+◌, ◌<◌, Bool, true, false, ◌&&◌, ◌||◌, List, [], ◌∷◌, ◌++◌, length, get_or, take, drop, replicate, eqb}

-- the k elements of xs from place at on
unfoldable pub part : {A : Type 0} → List A → ℕ → ℕ → List A
part xs at k = take k (drop at xs)

-- xs with the elements ys at place at, and everything else as it was
unfoldable pub put : {A : Type 0} → List A → ℕ → List A → List A
put xs at ys = take at xs ++ (ys ++ drop (at + length ys) xs)

-- f i, f (i + 1), .., k values in all
unfoldable pub run : {A : Type 0} → (ℕ → A) → ℕ → ℕ → List A
run f i zero = []
run f i (suc k) = f i ∷ run f (suc i) k

-- lists one behind the other
unfoldable pub joined : {A : Type 0} → List (List A) → List A
joined [] = []
joined (xs ∷ xss) = xs ++ joined xss

-- a sum of whole numbers
unfoldable pub total : List ℕ → ℕ
total [] = 0
total (x ∷ xs) = x + total xs

-- whether i is one of the numbers xs
unfoldable pub among : ℕ → List ℕ → Bool
among i [] = false
among i (x ∷ xs) = eqb i x || among i xs

-- whether two lists are the same
unfoldable pub same_list : List ℕ → List ℕ → Bool
same_list [] [] = true
same_list [] (y ∷ ys) = false
same_list (x ∷ xs) [] = false
same_list (x ∷ xs) (y ∷ ys) = eqb x y && same_list xs ys

-- whether all of the numbers xs are zero
unfoldable pub all_zero : List ℕ → Bool
all_zero [] = true
all_zero (x ∷ xs) = eqb x 0 && all_zero xs

-- k zero bytes
abbrev pub zeros : ℕ → List ℕ
zeros k = replicate k 0

-- a byte string: every element is below 256
abbrev pub Bytes : List ℕ → Type 0
Bytes xs = (i : ℕ) → get_or xs i 0 < 256
