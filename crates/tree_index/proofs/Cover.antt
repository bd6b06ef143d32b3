-- The blocks of the roots, in their order, are the chunks 0 to n - 1.
-- Assumes nothing.
use Prim.Native.Nat.{ℕ, zero, suc, ◌+◌, ◌-◌, ◌*◌, ◌/◌, ◌%◌, ◌^◌, ◌<◌}
use mathlib.Core.Path.{◌≡◌, refl, sym, ap, ap₂, ◌∙◌}
use mathlib.Core.Logic.{◌⊎◌, inl, inr}
use mathlib.Core.List.{List, [], ◌∷◌, ◌++◌, append-nil, map, map-append}
use native.Mathlib.Nat.{mod-one, mod-eq_of_lt, div-eq_of_lt, div-div-eq-div-mul, pow-suc, pow-succ', add-mul, one-mul, mul_assoc, zero-mul, mul-one, add-zero}
use native.Mathlib.Omega.{arith}
use Rattle.byte_strings.specs.Lists.{run, joined, total}
use Rattle.byte_strings.proofs.Lists.{run_add, joined_append, total_append}
use Rattle.tree_index.specs.Tree.{index, depth, block, root_of, roots_below, roots}
use Rattle.tree_index.proofs.Index.{depth_index, block_index, pow_twice}
use Rattle.tree_index.proofs.Filled.{block_end}
use Rattle.tree_index.proofs.Roots.{bit, no_root, one_root, low_bits}

-- the values of f at the chunks of the block that stands at the tree index i
unfoldable pub in_block : {A : Type 0} → (ℕ → A) → ℕ → List A
in_block f i = run f (block i * 2 ^ depth i) (2 ^ depth i)

pub in_block_index : {A : Type 0} (f : ℕ → A) (d k : ℕ) → in_block f (index d k) ≡ run f (k * 2 ^ d) (2 ^ d)
unfolding in_block
in_block_index f d k = ap₂ (λ (b e : ℕ). run f (b * 2 ^ e) (2 ^ e)) (block_index d k) (depth_index d k)

-- the high bits of n, with one bit less and with all of them
pub high_bits : (d n : ℕ) → n / 2 ^ d * 2 ^ d ≡ n / 2 ^ suc d * 2 ^ suc d + (n / 2 ^ d % 2) * 2 ^ d
high_bits d n =
    let x : ℕ = n / 2 ^ d in
    let half : n / 2 ^ suc d ≡ x / 2 = ap (λ (y : ℕ). n / y) (pow-suc 2 d) ∙ sym (div-div-eq-div-mul n (2 ^ d) 2) in
    let parts : x ≡ 2 * (x / 2) + x % 2 = omega arith in
    ap (λ (y : ℕ). y * 2 ^ d) parts
    ∙ add-mul (2 * (x / 2)) (x % 2) (2 ^ d)
    ∙ ap (λ (y : ℕ). y + x % 2 * 2 ^ d) (mul_assoc 2 (x / 2) (2 ^ d) ∙ sym (pow_twice (x / 2) d) ∙ ap (λ (y : ℕ). y * 2 ^ suc d) (sym half))

cover_below : {A : Type 0} (f : ℕ → A) (d n : ℕ) → joined (map (in_block f) (roots_below d n)) ≡ run f (n / 2 ^ d * 2 ^ d) (n % 2 ^ d)
unfolding roots_below run joined
cover_below f zero n = sym (ap (run f (n / 2 ^ 0 * 2 ^ 0)) (mod-one n))
cover_below f (suc d) n =
    ap joined (map-append (in_block f) (root_of d n) (roots_below d n))
    ∙ joined_append (map (in_block f) (root_of d n)) (map (in_block f) (roots_below d n))
    ∙ ap (λ l. joined (map (in_block f) (root_of d n)) ++ l) (cover_below f d n)
    ∙ pick (bit (n / 2 ^ d))
  where
    pick : (n / 2 ^ d % 2 ≡ 0) ⊎ (n / 2 ^ d % 2 ≡ 1)
        → joined (map (in_block f) (root_of d n)) ++ run f (n / 2 ^ d * 2 ^ d) (n % 2 ^ d) ≡ run f (n / 2 ^ suc d * 2 ^ suc d) (n % 2 ^ suc d)
    pick (inl e) =
        let z : (n / 2 ^ d % 2) * 2 ^ d ≡ 0 = ap (λ (x : ℕ). x * 2 ^ d) e ∙ zero-mul (2 ^ d) in
        let from : n / 2 ^ d * 2 ^ d ≡ n / 2 ^ suc d * 2 ^ suc d = omega (arith, high_bits d n) in
        let count : n % 2 ^ d ≡ n % 2 ^ suc d = omega (arith, low_bits d n) in
        ap (λ l. joined (map (in_block f) l) ++ run f (n / 2 ^ d * 2 ^ d) (n % 2 ^ d)) (no_root d n e) ∙ ap₂ (run f) from count
    pick (inr e) =
        let z : (n / 2 ^ d % 2) * 2 ^ d ≡ 2 ^ d = ap (λ (x : ℕ). x * 2 ^ d) e ∙ one-mul (2 ^ d) in
        let k : ℕ = n / 2 ^ d - 1 in
        let start : k * 2 ^ d + 2 ^ d ≡ n / 2 ^ d * 2 ^ d = sym (block_end d k) ∙ ap (λ (x : ℕ). x * 2 ^ d) (omega arith) in
        let from : k * 2 ^ d ≡ n / 2 ^ suc d * 2 ^ suc d = omega (arith, high_bits d n) in
        let count : 2 ^ d + n % 2 ^ d ≡ n % 2 ^ suc d = omega (arith, low_bits d n) in
        ap (λ l. joined (map (in_block f) l) ++ run f (n / 2 ^ d * 2 ^ d) (n % 2 ^ d)) (one_root d n e)
        ∙ ap₂ ◌++◌ (append-nil (in_block f (index d k)) ∙ in_block_index f d k) (ap (λ (x : ℕ). run f x (n % 2 ^ d)) (sym start))
        ∙ sym (run_add f (k * 2 ^ d) (2 ^ d) (n % 2 ^ d))
        ∙ ap₂ (run f) from count

-- the values at the blocks of the roots, one behind the other, are the values at all chunks
pub roots_cover : {A : Type 0} (f : ℕ → A) (n : ℕ) → n < 2 ^ 21 → joined (map (in_block f) (roots n)) ≡ run f 0 n
unfolding roots
roots_cover f n h =
    cover_below f 21 n ∙ ap₂ (run f) (ap (λ (x : ℕ). x * 2 ^ 21) (div-eq_of_lt h) ∙ zero-mul (2 ^ 21)) (mod-eq_of_lt h)

-- ---- sizes, which a parent takes from its children

unfoldable pub size_at : (ℕ → ℕ) → ℕ → ℕ → ℕ
size_at s zero k = s k
size_at s (suc d) k = size_at s d (2 * k) + size_at s d (2 * k + 1)

-- a node's size is the sum over its block
pub size_run : (s : ℕ → ℕ) (d k : ℕ) → size_at s d k ≡ total (run s (k * 2 ^ d) (2 ^ d))
unfolding size_at run total
size_run s zero k = sym (ap (λ (x : ℕ). s x + 0) (mul-one k) ∙ add-zero (s k))
size_run s (suc d) k =
    let even : 2 * k * 2 ^ d ≡ k * 2 ^ suc d = mul_assoc 2 k (2 ^ d) ∙ sym (pow_twice k d) in
    let odd : (2 * k + 1) * 2 ^ d ≡ k * 2 ^ suc d + 2 ^ d = block_end d (2 * k) ∙ ap (λ (x : ℕ). x + 2 ^ d) even in
    let twice : 2 ^ suc d ≡ 2 ^ d + 2 ^ d = omega (arith, pow-succ' 2 d) in
    ap₂ (λ (x y : ℕ). x + y) (size_run s d (2 * k)) (size_run s d (2 * k + 1))
    ∙ ap₂ (λ (x y : ℕ). total (run s x (2 ^ d)) + total (run s y (2 ^ d))) even odd
    ∙ sym
    (ap (λ (x : ℕ). total (run s (k * 2 ^ suc d) x)) twice
    ∙ ap total (run_add s (k * 2 ^ suc d) (2 ^ d) (2 ^ d))
    ∙ total_append (run s (k * 2 ^ suc d) (2 ^ d)) (run s (k * 2 ^ suc d + 2 ^ d) (2 ^ d)))

total_joined : (g : ℕ → List ℕ) (h : ℕ → ℕ) → ((i : ℕ) → total (g i) ≡ h i) → (xs : List ℕ) → total (joined (map g xs)) ≡ total (map h xs)
unfolding joined total
total_joined g h e [] = refl
total_joined g h e (x ∷ xs) = total_append (g x) (joined (map g xs)) ∙ ap₂ (λ (a b : ℕ). a + b) (e x) (total_joined g h e xs)

-- the sizes of the roots sum up to the sizes of all chunks
pub roots_size : (s : ℕ → ℕ) (n : ℕ) → n < 2 ^ 21 → total (map (λ (i : ℕ). size_at s (depth i) (block i)) (roots n)) ≡ total (run s 0 n)
unfolding in_block
roots_size s n h =
    sym (total_joined (in_block s) (λ (i : ℕ). size_at s (depth i) (block i)) (λ i. sym (size_run s (depth i) (block i))) (roots n))
    ∙ ap total (roots_cover s n h)
