-- Chunks that lie one behind the other. Assumes nothing.
use Prim.Native.Nat.{ℕ, suc, ◌+◌, ◌-◌, ◌≤◌, ◌<◌}
use mathlib.Core.Path.{◌≡◌, refl, sym, ap, ap₂, ◌∙◌}
use mathlib.Core.List.{List, [], ◌∷◌, ◌++◌}
use native.Mathlib.Nat.{zero-add, add-zero}
use native.Mathlib.Omega.{arith}
use lib.ListN.{length, get_or}
use Rattle.byte_strings.specs.Lists.{part, joined}
use Rattle.byte_strings.proofs.Lists.{part_add}
use Rattle.file_format.specs.Images.{data_size}
use Rattle.file_format.proofs.Spans.{span, span_add, span_one, span_none, span_cons}

-- chunks that lie one behind the other
pub chunks_joined : (cs : List (List ℕ)) (xs : List ℕ) (a : ℕ) → ((k : ℕ) → k < length cs → part xs (a + span cs 0 k) (length (get_or cs k [])) ≡ get_or cs k [])
    → part xs a (data_size cs) ≡ joined cs
unfolding joined data_size Rattle.byte_strings.specs.Lists.total part
chunks_joined [] xs a h = refl
chunks_joined (c ∷ cs) xs a h =
    part_add xs a (length c) (data_size cs)
    ∙ ap₂ ◌++◌ (ap (λ (b : ℕ). part xs b (length c)) (sym (ap (λ (s : ℕ). a + s) (span_none (c ∷ cs) 0) ∙ add-zero a)) ∙ h 0 (omega arith))
    (chunks_joined cs xs (a + length c)
    (λ k l. ap (λ (b : ℕ). part xs b (length (get_or cs k []))) (let e : a + length c + span cs 0 k ≡ a + (length c + span cs 0 k) = omega arith in e ∙ ap (λ (s : ℕ). a + s) (sym (span_cons c cs k)))
    ∙ h (suc k) (omega arith)))

-- a chunk ends no later than any behind it starts
pub span_before : (cs : List (List ℕ)) (k i : ℕ) → k < i → span cs 0 k + length (get_or cs k []) ≤ span cs 0 i
span_before cs k i h =
    let e : k + (1 + (i - suc k)) ≡ i = omega arith in
    omega (arith, span_one cs k, ap (λ (a : ℕ). span cs a 1) (zero-add k), span_add cs 0 k (1 + (i - suc k)), span_add cs (0 + k) 1 (i - suc k), ap (span cs 0) e)
