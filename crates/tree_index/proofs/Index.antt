-- Coordinates: every tree index is `index d k` for one depth d and one block k, so a law about indexes is proved of coordinates.
-- Assumes nothing.
use Prim.Native.Nat.{ℕ, zero, suc, ◌+◌, ◌-◌, ◌*◌, ◌/◌, ◌%◌, ◌^◌, ◌≤◌, ◌<◌, zero-le}
use mathlib.Core.Path.{◌≡◌, refl, sym, ap, ap₂, ◌∙◌, subst}
use mathlib.Core.Logic.{◌⊎◌, inl, inr}
use native.Mathlib.Nat.{add-mul, mul_assoc, mul_comm, mul_left_comm, one-mul, pow-succ', div-div-eq-div-mul, eq-zero-or-pos, lt_of_not-le, lt_irrefl, lt_of_lt_of_le, lt_of_le_of_lt, le_of_lt}
use native.Mathlib.Numerals.{add-one}
use native.Mathlib.Omega.{arith}
use lib.Arith.{half_le}
use lib.Pow.{pow_mono}
use lib.Count.{count_trailing_zeros}
use Rattle.tree_index.specs.Tree.{index, trailing_ones, depth, block, left_child, right_child, completed}

-- ---- halves

odd_mod : (x : ℕ) → (2 * x + 1) % 2 ≡ 1
odd_mod x = omega arith

odd_half : (x : ℕ) → (2 * x + 1) / 2 ≡ x
odd_half x = omega arith

even_mod : (x : ℕ) → (2 * x) % 2 ≡ 0
even_mod x = omega arith

-- the two lines of the definition
pub index_leaf : (k : ℕ) → index 0 k ≡ 2 * k
unfolding index
index_leaf k = refl

pub index_suc : (d k : ℕ) → index (suc d) k ≡ 2 * index d k + 1
unfolding index
index_suc d k = refl

-- one more trailing one where the lowest bit is set, and none where it isn't
abbrev counted : ℕ → ℕ → ℕ
counted b t = elim b [ zero ↦ zero | suc c ↦ suc t ]

ones_odd : (w x : ℕ) → trailing_ones (suc w) (2 * x + 1) ≡ suc (trailing_ones w x)
unfolding trailing_ones
ones_odd w x = ap₂ counted (odd_mod x) (ap (trailing_ones w) (odd_half x))

ones_even : (w x : ℕ) → trailing_ones w (2 * x) ≡ 0
unfolding trailing_ones
ones_even zero x = refl
ones_even (suc w) x = ap (λ (b : ℕ). counted b (trailing_ones w (2 * x / 2))) (even_mod x)

pub depth_le_index : (d k : ℕ) → d ≤ index d k
unfolding index
depth_le_index zero k = zero-le
depth_le_index (suc d) k = let h : d ≤ index d k = depth_le_index d k in omega arith

ones_index : (w d k : ℕ) → d ≤ w → trailing_ones w (index d k) ≡ d
unfolding index
ones_index w zero k h = ones_even w k
ones_index zero (suc d) k h = absurd (omega arith)
ones_index (suc w) (suc d) k h = ones_odd w (index d k) ∙ ap suc (ones_index w d k (omega arith))

-- `index` gives a node of the depth d, and of the block k
pub depth_index : (d k : ℕ) → depth (index d k) ≡ d
unfolding depth
depth_index d k = ones_index (index d k) d k (depth_le_index d k)

half_pow : (i d : ℕ) → i / 2 ^ (suc d + 1) ≡ i / 2 / 2 ^ (d + 1)
half_pow i d = simp (add-one, pow-succ', div-div-eq-div-mul)

index_block : (d k : ℕ) → index d k / 2 ^ (d + 1) ≡ k
unfolding index
index_block zero k = omega arith
index_block (suc d) k = half_pow (2 * index d k + 1) d ∙ ap (λ (x : ℕ). x / 2 ^ (d + 1)) (odd_half (index d k)) ∙ index_block d k

pub block_index : (d k : ℕ) → block (index d k) ≡ k
unfolding block
block_index d k = ap (λ (e : ℕ). index d k / 2 ^ (e + 1)) (depth_index d k) ∙ index_block d k

-- every index has coordinates
pub coordinates : (i : ℕ) → (d : ℕ) × (k : ℕ) × (index d k ≡ i)
unfolding index
coordinates i = go i i (omega arith)
  where
    split : (w j : ℕ) → (j / 2 ≤ w → (d : ℕ) × (k : ℕ) × (index d k ≡ j / 2)) → j ≤ suc w → (j % 2 ≡ 0) ⊎ (0 < j % 2) → (d : ℕ) × (k : ℕ) × (index d k ≡ j)
    split w j rec h (inl e) = (zero, j / 2, omega arith)
    split w j rec h (inr e) = let r = rec (half_le h) in (suc r.0, r.1, (let q : index r.0 r.1 ≡ j / 2 = r.2 in omega arith))

    go : (w j : ℕ) → j ≤ w → (d : ℕ) × (k : ℕ) × (index d k ≡ j)
    go zero j h = (zero, zero, omega arith)
    go (suc w) j h = split w j (go w (j / 2)) h (eq-zero-or-pos (j % 2))

pub index_of : (i : ℕ) → index (depth i) (block i) ≡ i
index_of i =
    let r = coordinates i in
    subst (λ (j : ℕ). index (depth j) (block j) ≡ j) r.2 (ap₂ index (depth_index r.0 r.1) (block_index r.0 r.1))

-- what holds of every node by its coordinates holds of every index
pub by_coordinates : (P : ℕ → Type 0) → ((d k : ℕ) → P (index d k)) → (i : ℕ) → P i
by_coordinates P h i = let r = coordinates i in subst P r.2 (h r.0 r.1)

-- the size of a block of one depth more
pub pow_twice : (k d : ℕ) → k * 2 ^ suc d ≡ 2 * (k * 2 ^ d)
pow_twice k d = ap (λ (x : ℕ). k * x) (pow-succ' 2 d) ∙ mul_left_comm k 2 (2 ^ d)

-- the closed form, as a sum (the first chunk of the block, twice, and the size of the block) and as a product
pub index_sum : (d k : ℕ) → index d k + 1 ≡ 2 * (k * 2 ^ d) + 2 ^ d
unfolding index
index_sum zero k = omega arith
index_sum (suc d) k = omega (arith, index_sum d k, pow-succ' 2 d, pow_twice k d)

pub index_closed : (d k : ℕ) → index d k + 1 ≡ 2 ^ d * (2 * k + 1)
index_closed d k =
    index_sum d k
    ∙ sym (mul_comm (2 ^ d) (2 * k + 1) ∙ add-mul (2 * k) 1 (2 ^ d) ∙ ap₂ (λ (x y : ℕ). x + y) (mul_assoc 2 k (2 ^ d)) (one-mul (2 ^ d)))

-- ---- children and parents

pub left_child_index : (d k : ℕ) → left_child (index (suc d) k) ≡ index d (2 * k)
unfolding left_child
left_child_index d k = ap₂ index (ap (λ (x : ℕ). x - 1) (depth_index (suc d) k) ∙ omega arith) (ap (λ (x : ℕ). 2 * x) (block_index (suc d) k))

pub right_child_index : (d k : ℕ) → right_child (index (suc d) k) ≡ index d (2 * k + 1)
unfolding right_child
right_child_index d k =
    ap₂ index (ap (λ (x : ℕ). x - 1) (depth_index (suc d) k) ∙ omega arith) (ap (λ (x : ℕ). 2 * x + 1) (block_index (suc d) k))

-- ---- the depth as the code computes it

trailing_index : (w d k : ℕ) → d ≤ w → count_trailing_zeros w (index d k + 1) ≡ d
unfolding index count_trailing_zeros
trailing_index zero zero k h = refl
trailing_index zero (suc d) k h = absurd (omega arith)
trailing_index (suc w) zero k h = rw (odd_mod k)
trailing_index (suc w) (suc d) k h = rw (even_next (index d k), half_next (index d k)) (ap suc (trailing_index w d k (omega arith)))
  where
    even_next : (x : ℕ) → (2 * x + 1 + 1) % 2 ≡ 0
    even_next x = omega arith

    half_next : (x : ℕ) → (2 * x + 1 + 1) / 2 ≡ x + 1
    half_next x = omega arith

-- a node of the depth d stands at 2^d - 1 at the least
pub pow_le_index : (d k : ℕ) → 2 ^ d ≤ index d k + 1
pow_le_index d k = omega (arith, index_sum d k)

-- an exponent below another by its power
pub pow_below : (d w : ℕ) → 2 ^ d < 2 ^ w → d < w
pow_below d w h = lt_of_not-le (λ (g : w ≤ d). lt_irrefl (2 ^ d) (lt_of_lt_of_le h (pow_mono g)))

pub trailing_depth : (w i : ℕ) → i + 1 < 2 ^ w → depth i ≡ count_trailing_zeros w (i + 1)
trailing_depth w i =
    by_coordinates (λ j. j + 1 < 2 ^ w → depth j ≡ count_trailing_zeros w (j + 1))
    (λ d k h. depth_index d k ∙ sym (trailing_index w d k (le_of_lt (pow_below d w (lt_of_le_of_lt (pow_le_index d k) h)))))
    i

-- the parents that the chunk n completes are as many as the depth of the tree index n
pub completed_depth : (n : ℕ) → n + 1 < 2 ^ 64 → completed n ≡ depth n
unfolding completed
completed_depth n h = sym (trailing_depth 64 n h)
