-- What 19 asks: that x is y wherever it is looked at, where looked tells. Assumes nothing.
use Prim.Native.Nat.{ℕ}
use mathlib.Core.Path.{◌≡◌, refl, ap}
use mathlib.Core.Bool.{Bool, true, false, ◌&&◌, not}
use mathlib.Core.List.{List}
use native.Mathlib.Omega.{arith}
use lib.ListN.{length}
use Rattle.byte_strings.specs.Lists.{part, same_list}
use Rattle.byte_strings.specs.Lowest.{nowhere}
use Rattle.byte_strings.proofs.Lists.{same_eq, same_of}
use Rattle.bitfield.specs.Known.{stored_known}
use Rattle.bitfield.specs.Release.{stored_held}
use Rattle.file_format.specs.Sizes.{entry_place}
use Rattle.file_format.specs.Entries.{entry_bytes}
use Rattle.copy_take_in.specs.TakeIn.{Given, contradicted, bytes_contradicted, index_if, contradicts}

alike : (looked : Bool) (x y : List ℕ) (i : ℕ) → index_if (looked && not (same_list x y)) i ≡ nowhere → looked ≡ true → x ≡ y
alike looked x y i e k = same_eq x y (pick looked (same_list x y) e k)
  where
    pick : (a b : Bool) → index_if (a && not b) i ≡ nowhere → a ≡ true → b ≡ true
    pick a true f g = refl
    pick true false f g = absurd (let z : ◌≡◌ {A = ℕ} 0 1 = cc in omega arith)
    pick false false f g = g

nothing : (looked : Bool) (x y : List ℕ) (i : ℕ) → (looked ≡ true → x ≡ y) → index_if (looked && not (same_list x y)) i ≡ nowhere
nothing true x y i h = ap (λ (b : Bool). index_if (not b) i) (same_of x y (h refl))
nothing false x y i h = refl

module _ (t bits : List ℕ) (g : Given) where
  pub entry_alike : contradicts t bits g ≡ nowhere → stored_known bits g.at ≡ true → part t (entry_place g.at) 40 ≡ entry_bytes g.entry
  unfolding contradicted
  entry_alike = alike (stored_known bits g.at) _ _ g.at

  pub no_entry : (stored_known bits g.at ≡ true → part t (entry_place g.at) 40 ≡ entry_bytes g.entry) → contradicts t bits g ≡ nowhere
  unfolding contradicted
  no_entry = nothing (stored_known bits g.at) _ _ g.at

module _ (bits content : List ℕ) (i start : ℕ) (chunk : List ℕ) (at : ℕ) where
  pub bytes_alike : index_if (bytes_contradicted bits content i start chunk) at ≡ nowhere → stored_held bits i ≡ true → part content start (length chunk) ≡ chunk
  unfolding bytes_contradicted
  bytes_alike = alike (stored_held bits i) _ _ at

  pub no_bytes : (stored_held bits i ≡ true → part content start (length chunk) ≡ chunk) → index_if (bytes_contradicted bits content i start chunk) at ≡ nowhere
  unfolding bytes_contradicted
  no_bytes = nothing (stored_held bits i) _ _ at
