-- Sums of the lengths of neighbouring chunks: where chunks start, and what a block of chunks takes.
-- Assumes nothing.
use Prim.Native.Nat.{ℕ, zero, suc, ◌+◌, ◌-◌, ◌*◌, ◌^◌, ◌≤◌, ◌<◌}
use mathlib.Core.Path.{◌≡◌, refl, sym, ap, ap₂, ◌∙◌}
use mathlib.Core.Bool.{true}
use mathlib.Core.List.{List, [], ◌∷◌, ◌++◌, map}
use native.Mathlib.Nat.{add-zero, zero-add, suc-mul, zero-mul}
use native.Mathlib.Omega.{arith}
use lib.ListN.{length, get_or, length-append, get_or-map, length-map}
use Rattle.byte_strings.specs.Lists.{part, run, joined, total}
use Rattle.byte_strings.proofs.Lists.{run_add, run_ext, run_get_or, part_behind, part_front}
pub use Rattle.byte_strings.proofs.Lists.{total_append}
use Rattle.tree_index.specs.Tree.{index, depth, block, filled, roots}
use Rattle.tree_index.proofs.Index.{depth_index, block_index, by_coordinates}
use Rattle.tree_index.proofs.Filled.{filled_end}
use Rattle.tree_index.proofs.Roots.{root_filled}
use Rattle.tree_index.proofs.Cover.{size_at, size_run, roots_size}
use Rattle.file_format.specs.Images.{data_size, data_image}

-- ---- sums

pub total_run_add : (f : ℕ → ℕ) (i a b : ℕ) → total (run f i (a + b)) ≡ total (run f i a) + total (run f (i + a) b)
total_run_add f i a b = ap total (run_add f i a b) ∙ total_append (run f i a) (run f (i + a) b)

pub total_run_le : (f : ℕ → ℕ) (m i k : ℕ) → ((j : ℕ) → f j ≤ m) → total (run f i k) ≤ k * m
unfolding total run
total_run_le f m i zero h = omega (arith, zero-mul m)
total_run_le f m i (suc k) h = omega (arith, suc-mul k m, h i, total_run_le f m (suc i) k h)

-- ---- the lengths of chunks

-- the lengths of c chunks from number a on, together
unfoldable pub span : List (List ℕ) → ℕ → ℕ → ℕ
span cs a c = total (run (λ j. length (get_or cs j [])) a c)

pub span_add : (cs : List (List ℕ)) (a b c : ℕ) → span cs a (b + c) ≡ span cs a b + span cs (a + b) c
unfolding span
span_add cs = total_run_add (λ j. length (get_or cs j []))

pub span_none : (cs : List (List ℕ)) (a : ℕ) → span cs a 0 ≡ 0
unfolding span run total
span_none cs a = refl

pub span_one : (cs : List (List ℕ)) (a : ℕ) → span cs a 1 ≡ length (get_or cs a [])
unfolding span run total
span_one cs a = add-zero (length (get_or cs a []))

pub span_le : (cs : List (List ℕ)) (m a c : ℕ) → ((k : ℕ) → length (get_or cs k []) ≤ m) → span cs a c ≤ c * m
unfolding span
span_le cs m a c h = total_run_le (λ j. length (get_or cs j [])) m a c h

-- all chunks together are the data
pub span_all : (cs : List (List ℕ)) → span cs 0 (length cs) ≡ data_size cs
unfolding span data_size
span_all cs =
    ap total (run_ext (λ j. length (get_or cs j [])) (λ j. get_or (map length cs) j 0) 0 (length cs) (λ j p q. sym (get_or-map length cs j []))
    ∙ run_get_or (map length cs) (length cs) 0 (length-map cs length))

-- a chunk starts where the chunks before it end
run_shift : (f : ℕ → ℕ) (i k : ℕ) → run f (suc i) k ≡ run (λ l. f (suc l)) i k
unfolding run
run_shift f i zero = refl
run_shift f i (suc k) = ap (λ (t : List ℕ). f (suc i) ∷ t) (run_shift f (suc i) k)

pub span_cons : (c : List ℕ) (cs : List (List ℕ)) (k : ℕ) → span (c ∷ cs) 0 (suc k) ≡ length c + span cs 0 k
unfolding span run total
span_cons c cs k = ap (λ (t : List ℕ). length c + total t) (run_shift (λ j. length (get_or (c ∷ cs) j [])) 0 k)

-- the chunks one behind the other
pub joined_length : (cs : List (List ℕ)) → length (data_image cs) ≡ data_size cs
unfolding data_image data_size joined total
joined_length [] = refl
joined_length (c ∷ cs) = length-append c (joined cs) ∙ ap (λ (t : ℕ). length c + t) (joined_length cs)

-- a chunk ends within the data
pub chunk_inside : (cs : List (List ℕ)) (k : ℕ) → k < length cs → span cs 0 k + length (get_or cs k []) ≤ data_size cs
chunk_inside cs k h =
    let c : ℕ = length cs - suc k in
    let e : k + (1 + c) ≡ length cs = omega arith in
    omega (arith, span_one cs k, span_one cs (0 + k), ap (λ (a : ℕ). span cs a 1) (zero-add k), span_add cs 0 k (1 + c), span_add cs (0 + k) 1 c, ap (span cs 0) e, span_all cs)

pub part_chunk : (cs : List (List ℕ)) (k : ℕ) → k < length cs → part (joined cs) (span cs 0 k) (length (get_or cs k [])) ≡ get_or cs k []
unfolding joined
part_chunk [] k h = absurd (omega arith)
part_chunk (c ∷ cs) zero h =
    ap (λ (a : ℕ). part (c ++ joined cs) a (length c)) (span_none (c ∷ cs) 0) ∙ part_front c (joined cs) (length c) refl
part_chunk (c ∷ cs) (suc k) h =
    ap (λ (a : ℕ). part (c ++ joined cs) a (length (get_or cs k []))) (span_cons c cs k)
    ∙ part_behind c (joined cs) (length c) (span cs 0 k) (length (get_or cs k [])) refl
    ∙ part_chunk cs k (omega arith)

-- ---- the roots' blocks cover the chunks

-- two functions that agree on the elements of a list
pub map_ext : {A : Type 0} (f g : ℕ → A) (xs : List ℕ) → ((j : ℕ) → j < length xs → f (get_or xs j 0) ≡ g (get_or xs j 0)) → map f xs ≡ map g xs
map_ext f g [] h = refl
map_ext f g (x ∷ xs) h = ap₂ ◌∷◌ (h 0 (omega arith)) (map_ext f g xs (λ j l. h (suc j) (omega arith)))

-- where each filled node s has the length of its block, the roots together have that of all chunks
module _ (cs : List (List ℕ)) (s : ℕ → ℕ) (n : ℕ) (node : (d k : ℕ) → (k + 1) * 2 ^ d ≤ n → s (index d k) ≡ span cs (k * 2 ^ d) (2 ^ d)) where
  at_filled : (i : ℕ) → filled n i ≡ true → s i ≡ size_at (λ j. length (get_or cs j [])) (depth i) (block i)
  unfolding span
  at_filled =
      by_coordinates (λ i. filled n i ≡ true → s i ≡ size_at (λ j. length (get_or cs j [])) (depth i) (block i))
      (λ d k h. node d k (filled_end n d k h)
      ∙ sym (ap₂ (size_at (λ j. length (get_or cs j []))) (depth_index d k) (block_index d k) ∙ size_run (λ j. length (get_or cs j [])) d k))

  pub cover : n ≤ 2 ^ 20 → total (map s (roots n)) ≡ span cs 0 n
  unfolding span
  cover h =
      ap total (map_ext s (λ i. size_at (λ j. length (get_or cs j [])) (depth i) (block i)) (roots n) (λ j l. at_filled (get_or (roots n) j 0) (root_filled n j l)))
      ∙ roots_size (λ j. length (get_or cs j [])) n (omega arith)
