-- A list whose lengths are all short. Assumes nothing.
use Prim.Native.Nat.{ℕ, zero, suc, ◌≤◌, ◌<◌}
use mathlib.Core.Path.{◌≡◌, refl, ap, ◌∙◌}
use mathlib.Core.Bool.{Bool, true, false, ◌&&◌}
use mathlib.Core.List.{List, [], ◌∷◌}
use native.Mathlib.Omega.{arith}
use borrow.Author.Tests.{leb-true, le-leb, lt-leb}
use lib.Dec.{leb}
use lib.ListN.{length, get_or}
use Rattle.byte_strings.proofs.Bools.{both_true, and_false}
use Rattle.file_format.specs.Sizes.{longest_chunk}
use Rattle.checks.specs.Lengths.{all_short}

pub short_head : (l : ℕ) (ls : List ℕ) → all_short (l ∷ ls) ≡ true → (l ≤ longest_chunk) × (all_short ls ≡ true)
unfolding all_short
short_head l ls e = let b = both_true (leb l longest_chunk) (all_short ls) e in (leb-true l longest_chunk b.0, b.1)

pub short_at : (ls : List ℕ) (i : ℕ) → all_short ls ≡ true → get_or ls i 0 ≤ longest_chunk
short_at [] i e = omega arith
short_at (l ∷ ls) zero e = (short_head l ls e).0
short_at (l ∷ ls) (suc i) e = short_at ls i (short_head l ls e).1

-- as the code finds it: no length is above the limit, or one is
pub none_long : (ls : List ℕ) → ((k : ℕ) → k < length ls → get_or ls k 0 ≤ longest_chunk) → all_short ls ≡ true
unfolding all_short
none_long [] f = refl
none_long (l ∷ ls) f =
    ap (λ (b : Bool). b && all_short ls) (le-leb l longest_chunk (f 0 (omega arith))) ∙ none_long ls (λ k h. f (suc k) (omega arith))

pub one_long : (ls : List ℕ) (k : ℕ) → k < length ls → longest_chunk < get_or ls k 0 → all_short ls ≡ false
unfolding all_short
one_long [] k h g = absurd (omega arith)
one_long (l ∷ ls) zero h g = ap (λ (b : Bool). b && all_short ls) (lt-leb l longest_chunk g)
one_long (l ∷ ls) (suc k) h g =
    ap (λ (b : Bool). leb l longest_chunk && b) (one_long ls k (omega arith) g) ∙ and_false (leb l longest_chunk)
