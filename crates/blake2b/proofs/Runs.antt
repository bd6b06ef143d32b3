-- The runs of a hash lead to its last state, and are as many as its blocks. Assumes nothing.
use Prim.Native.Nat.{ℕ, zero, suc, ◌+◌, ◌-◌, ◌*◌, ◌≤◌}
use mathlib.Core.Path.{◌≡◌, refl, sym, ap, ◌∙◌}
use mathlib.Core.Bool.{true, false}
use mathlib.Core.List.{List, [], ◌∷◌, ◌++◌}
use native.Mathlib.Omega.{arith}
use lib.ListN.{length, length-append}
use Rattle.blake2b_compression.specs.Compression.{F}
use Rattle.blake2b.specs.Hash.{block, blocks, key_block, input, initial, after, final}
use Rattle.blake2b.specs.Runs.{Run, inner, runs_of, through, runs, RunsOfTheHash}

-- one run more
through_more : (h : List ℕ) (xs : List Run) (x : Run) → through h (xs ++ (x ∷ [])) ≡ F (through h xs) x.words x.taken x.last
unfolding through
through_more h [] x = refl
through_more h (y ∷ ys) x = through_more (F h y.words y.taken y.last) ys x

through_inner : (h d : List ℕ) (i : ℕ) → after h d i ≡ through h (inner d i)
unfolding after inner through
through_inner h d zero = refl
through_inner h d (suc i) =
    ap (λ (s : List ℕ). F s (block d (128 * i)) (128 * (i + 1)) false) (through_inner h d i)
    ∙ sym (through_more h (inner d i) (record { words = block d (128 * i); taken = 128 * (i + 1); last = false }))

of_data : (h d : List ℕ) → F (after h d (blocks (length d) - 1)) (block d (128 * (blocks (length d) - 1))) (length d) true ≡ through h (runs_of d)
unfolding runs_of
of_data h d =
    let end : ℕ = blocks (length d) - 1 in
    ap (λ (s : List ℕ). F s (block d (128 * end)) (length d) true) (through_inner h d end)
    ∙ sym (through_more h (inner d end) (record { words = block d (128 * end); taken = length d; last = true }))

state : (nn : ℕ) (key d : List ℕ) → final nn (length key) (input key d) ≡ through (initial nn (length key)) (runs_of (input key d))
unfolding final
state nn key d = of_data (initial nn (length key)) (input key d)

length_inner : (d : List ℕ) (i : ℕ) → length (inner d i) ≡ i
unfolding inner
length_inner d zero = refl
length_inner d (suc i) = length-append (inner d i) _ ∙ omega (arith, length_inner d i)

some_block : (n : ℕ) → 1 ≤ blocks n
unfolding blocks
some_block n = omega arith

length_runs : (d : List ℕ) → length (runs_of d) ≡ blocks (length d)
unfolding runs_of
length_runs d =
    let end : ℕ = blocks (length d) - 1 in
    length-append (inner d end) _ ∙ omega (arith, length_inner d end, some_block (length d))

count : (key d : List ℕ) → runs key d ≡ blocks (length (input key d))
unfolding runs
count key d = length_runs (input key d)

keyless : (d : List ℕ) → runs [] d ≡ blocks (length d)
unfolding runs input key_block
keyless d = length_runs d

pub runs_of_the_hash : RunsOfTheHash
runs_of_the_hash = record { state = state; count = count; keyless = keyless }
