-- The length of words. Assumes nothing.
use Prim.Native.Nat.{ℕ, ◌*◌}
use mathlib.Core.Path.{◌≡◌, refl, ◌∙◌}
use mathlib.Core.List.{List, [], ◌∷◌}
use native.Mathlib.Omega.{arith}
use lib.ListN.{length, length-append}
use Rattle.byte_strings.specs.Numbers.{be}
use Rattle.byte_strings.proofs.Numbers.{length_be}
use Rattle.journal.specs.Form.{words}

pub words_length : (xs : List ℕ) → length (words xs) ≡ 8 * length xs
unfolding words
words_length [] = refl
words_length (x ∷ xs) = length-append (be 8 x) (words xs) ∙ omega (arith, length_be 8 x, words_length xs)
