-- The Index of the part, put behind the tree bytes.
use native.Mathlib.Omega.{arith}
use mathlib.Core.Path.{◌≡◌, ap, ◌∙◌}
use mathlib.Core.List.{List}
use Prim.Native.Nat.{ℕ, ◌+◌, ◌-◌}
use lib.ListN.{take, drop}
use Rattle.byte_strings.specs.Lists.{part, put}
use Rattle.bitfield.specs.Index.{index_bytes}
use Rattle.bitfield.specs.Append.{regenerated, bits_place}
use Rattle.bitfield.proofs.regenerate.Goals as goal

together : (xs zs bs : List ℕ) (e at : ℕ) → at ≡ bits_place e → zs ≡ put xs (at + 3072) bs
    → bs ≡ index_bytes (take (at + 1024 - at) (drop at xs)) → zs ≡ regenerated xs e
unfolding regenerated part
together xs zs bs e at f p q =
    let r : at + 1024 - at ≡ 1024 = omega arith in
    p ∙ ap (put xs (at + 3072)) (q ∙ ap (λ (k : ℕ). index_bytes (take k (drop at xs))) r)
    ∙ ap (λ (x : ℕ). put xs (x + 3072) (index_bytes (take 1024 (drop x xs)))) f

pub returns : goal.returns
returns c = together _ _ _ _ _ c.entry_place-at.ensures c.copy_to.ensures c.index_of-bytes.ensures
