-- Laws of tests: two of which neither is passed, and one beside a test that is. Assumes nothing.
use mathlib.Core.Path.{◌≡◌, refl, sym}
use mathlib.Core.Bool.{Bool, true, false, ◌&&◌, ◌||◌}
use Rattle.byte_strings.proofs.Bools.{not_both}

pub neither : (a b : Bool) → (a || b) ≡ false → (a ≡ false) × (b ≡ false)
neither true b e = not_both (sym e)
neither false b e = (refl, e)

pub and_true : (b : Bool) → (b && true) ≡ b
and_true true = refl
and_true false = refl
