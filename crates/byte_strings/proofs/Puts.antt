-- What is put into a list: over the same place, and beside an element. Assumes nothing.
use Prim.Native.Nat.{ℕ, ◌+◌, ◌-◌, ◌≤◌, ◌<◌}
use mathlib.Core.Path.{◌≡◌, sym, ap, ap₂, ◌∙◌}
use mathlib.Core.Logic.{◌⊎◌, inl, inr}
use mathlib.Core.List.{List, ◌++◌}
use native.Mathlib.Nat.{le_refl}
use native.Mathlib.Omega.{arith}
use lib.ListN.{length, get_or}
use lib.Seq.{get_or-take, get_or-drop}
use Rattle.byte_strings.specs.Lists.{put}
use Rattle.byte_strings.proofs.Lists.{take_put, drop_put}

module _ (xs : List ℕ) where
  -- what is put over the same place stays
  pub put_over : (at : ℕ) (ys zs : List ℕ) → at ≤ length xs → length ys ≡ length zs → put (put xs at ys) at zs ≡ put xs at zs
  unfolding put
  put_over at ys zs h e =
      ap₂ (λ (us vs : List ℕ). us ++ (zs ++ vs)) (take_put at xs at ys (le_refl at) h) (drop_put (at + length zs) xs at ys (omega arith) h)

  -- an element beside what is put
  pub get_d_beside : (at : ℕ) (ys : List ℕ) (j : ℕ) → (j < at) ⊎ (at + length ys ≤ j) → at ≤ length xs → get_or (put xs at ys) j 0 ≡ get_or xs j 0
  get_d_beside at ys j w r =
      elim w [
        | inl l ↦
            sym (get_or-take at (put xs at ys) j 0 l) ∙ ap (λ (us : List ℕ). get_or us j 0) (take_put at xs at ys (le_refl at) r) ∙ get_or-take at xs j 0 l
        | inr l ↦
            let n : ℕ = at + length ys in
            let i : ℕ = j - n in
            let e : n + i ≡ j = omega arith in
            ap (λ (k : ℕ). get_or (put xs at ys) k 0) (sym e) ∙ sym (get_or-drop n (put xs at ys) i 0) ∙ ap (λ (us : List ℕ). get_or us i 0) (drop_put n xs at ys (le_refl n) r)
            ∙ get_or-drop n xs i 0 ∙ ap (λ (k : ℕ). get_or xs k 0) e
      ]
