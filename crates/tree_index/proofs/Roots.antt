-- The roots of n chunks, and how an append changes them.
-- Assumes nothing.
use Prim.Native.Nat.{ℕ, zero, suc, ◌+◌, ◌-◌, ◌*◌, ◌/◌, ◌%◌, ◌^◌, ◌≤◌, ◌<◌}
use mathlib.Core.Path.{◌≡◌, refl, sym, ap, ap₂, ◌∙◌, subst}
use mathlib.Core.Bool.{true}
use mathlib.Core.Logic.{◌⊎◌, inl, inr}
use mathlib.Core.List.{List, [], ◌∷◌, ◌++◌, append_assoc, append-nil}
use native.Mathlib.Nat.{le_refl, le_trans, le_dest, le_of_suc-le-suc, eq-or-lt_of_le, eq-zero-or-pos, mod-one, mod-lt, mod-eq_of_lt, div-mul-le_self}
use native.Mathlib.Nat.{div-le_self, div-div-eq-div-mul, div-eq_of_eq-mul_left, pow-suc, pow-succ', add-zero, add-suc, suc-add, zero-add, add_comm}
use native.Mathlib.Numerals.{one-add}
use native.Mathlib.Omega.{arith}
use lib.Arith.{digits_div}
use lib.Count.{ones, ones_cat, ones-le}
use lib.ListN.{length, get_or, length-append}
use lib.Pow.{pow_pos, pow-lt, mod-pow-add, shr-shr, ones_lt}
use Rattle.tree_index.specs.Tree.{index, depth, block, filled, entries, root_of, roots_below, roots, completed}
use Rattle.tree_index.proofs.Index.{index_of, index_leaf, index_suc, pow_below, pow_le_index, completed_depth}
use Rattle.tree_index.proofs.Filled.{block_end, end_filled, filled_below}
use Rattle.tree_index.proofs.Appended.{last_block, completed_end}

-- ---- a root for each one bit

pub bit : (x : ℕ) → (x % 2 ≡ 0) ⊎ (x % 2 ≡ 1)
bit x = pick (eq-zero-or-pos (x % 2))
  where
    pick : (x % 2 ≡ 0) ⊎ (0 < x % 2) → (x % 2 ≡ 0) ⊎ (x % 2 ≡ 1)
    pick (inl e) = inl e
    pick (inr h) = inr (omega arith)

-- the root that a bit b gives
abbrev given : ℕ → ℕ → List ℕ
given b i = elim b [ zero ↦ [] | suc c ↦ i ∷ [] ]

pub no_root : (d n : ℕ) → n / 2 ^ d % 2 ≡ 0 → root_of d n ≡ []
unfolding root_of
no_root d n e = ap (λ (b : ℕ). given b (index d (n / 2 ^ d - 1))) e

pub one_root : (d n : ℕ) → n / 2 ^ d % 2 ≡ 1 → root_of d n ≡ index d (n / 2 ^ d - 1) ∷ []
unfolding root_of
one_root d n e = ap (λ (b : ℕ). given b (index d (n / 2 ^ d - 1))) e

same_root : (d n m : ℕ) → n / 2 ^ d ≡ m / 2 ^ d → root_of d n ≡ root_of d m
unfolding root_of
same_root d n m e = ap (λ (x : ℕ). given (x % 2) (index d (x - 1))) e

length_root_of : (d n : ℕ) → length (root_of d n) ≡ ones (n / 2 ^ d % 2)
unfolding ones
length_root_of d n = pick (bit (n / 2 ^ d))
  where
    pick : (n / 2 ^ d % 2 ≡ 0) ⊎ (n / 2 ^ d % 2 ≡ 1) → length (root_of d n) ≡ ones (n / 2 ^ d % 2)
    pick (inl e) = ap length (no_root d n e) ∙ sym (ap ones e)
    pick (inr e) = ap length (one_root d n e) ∙ sym (ap ones e)

-- the low bits of n: one more of them
pub low_bits : (d n : ℕ) → n % 2 ^ suc d ≡ (n / 2 ^ d % 2) * 2 ^ d + n % 2 ^ d
low_bits d n = ap (λ (x : ℕ). n % 2 ^ x) (sym (one-add d)) ∙ mod-pow-add n 1 d

pub length_roots_below : (d n : ℕ) → length (roots_below d n) ≡ ones (n % 2 ^ d)
unfolding roots_below ones
length_roots_below zero n = sym (ap ones (mod-one n))
length_roots_below (suc d) n =
    length-append (root_of d n) (roots_below d n)
    ∙ ap₂ (λ (x y : ℕ). x + y) (length_root_of d n) (length_roots_below d n)
    ∙ sym (ap ones (low_bits d n) ∙ ones_cat d (n / 2 ^ d % 2) (n % 2 ^ d) (mod-lt n (pow_pos d)))

-- "as many roots as n has one bits"
pub length_roots : (n : ℕ) → n < 2 ^ 21 → length (roots n) ≡ ones n
unfolding roots
length_roots n h = length_roots_below 21 n ∙ ap ones (mod-eq_of_lt h)

-- "at most 20"
pub length_roots_le : (n : ℕ) → n ≤ 2 ^ 20 → length (roots n) ≤ 20
length_roots_le n h = subst (λ (x : ℕ). x ≤ 20) (sym (length_roots n (omega arith))) (pick (eq-or-lt_of_le h))
  where
    pick : (n ≡ 2 ^ 20) ⊎ (n < 2 ^ 20) → ones n ≤ 20
    pick (inl e) =
        subst (λ (x : ℕ). ones x ≤ 20) (sym e) (le_trans (subst (λ (x : ℕ). x ≤ ones 1 + ones 0) (sym (ones_cat 20 1 0 (pow_pos 20))) (le_refl (ones 1 + ones 0)))
        (omega (arith, ones-le 1 1 (omega arith), ones-le 0 0 (omega arith))))
    pick (inr l) = ones-le 20 n l

-- what holds of the root of each one bit holds of every root
each_below : (P : ℕ → Type 0) (d n : ℕ) → ((e : ℕ) → e < d → n / 2 ^ e % 2 ≡ 1 → P (index e (n / 2 ^ e - 1)))
    → (j : ℕ) → j < length (roots_below d n) → P (get_or (roots_below d n) j 0)
unfolding roots_below
each_below P zero n h j l = absurd (omega arith)
each_below P (suc d) n h j l = pick (each_below P d n (λ e g. h e (omega arith))) (bit (n / 2 ^ d)) j l
  where
    first : ((i : ℕ) → i < length (roots_below d n) → P (get_or (roots_below d n) i 0)) → n / 2 ^ d % 2 ≡ 1
        → (i : ℕ) → i < suc (length (roots_below d n)) → P (get_or (index d (n / 2 ^ d - 1) ∷ roots_below d n) i 0)
    first rest e zero g = h d (omega arith) e
    first rest e (suc i) g = rest i (le_of_suc-le-suc g)

    pick : ((i : ℕ) → i < length (roots_below d n) → P (get_or (roots_below d n) i 0)) → (n / 2 ^ d % 2 ≡ 0) ⊎ (n / 2 ^ d % 2 ≡ 1)
        → (i : ℕ) → i < length (root_of d n ++ roots_below d n) → P (get_or (root_of d n ++ roots_below d n) i 0)
    pick rest (inl e) = subst (λ (r : List ℕ). (i : ℕ) → i < length (r ++ roots_below d n) → P (get_or (r ++ roots_below d n) i 0)) (sym (no_root d n e)) rest
    pick rest (inr e) = subst (λ (r : List ℕ). (i : ℕ) → i < length (r ++ roots_below d n) → P (get_or (r ++ roots_below d n) i 0)) (sym (one_root d n e)) (first rest e)

pub each_root : (P : ℕ → Type 0) (n : ℕ) → ((d : ℕ) → d < 21 → n / 2 ^ d % 2 ≡ 1 → P (index d (n / 2 ^ d - 1)))
    → (j : ℕ) → j < length (roots n) → P (get_or (roots n) j 0)
unfolding roots
each_root P n = each_below P 21 n

-- every root is filled, and an entry
pub root_filled : (n j : ℕ) → j < length (roots n) → filled n (get_or (roots n) j 0) ≡ true
root_filled n =
    each_root (λ i. filled n i ≡ true) n
    (λ d l e. end_filled n d (n / 2 ^ d - 1)
    (subst (λ (x : ℕ). x * 2 ^ d ≤ n) (omega arith) (div-mul-le_self n (2 ^ d))))

pub root_below : (n j : ℕ) → j < length (roots n) → get_or (roots n) j 0 < entries n
root_below n j l = filled_below n (get_or (roots n) j 0) (root_filled n j l)

-- the root at a place, by its depth
pub root_at : (n j : ℕ) → j < length (roots n) → (d : ℕ) × (d < 21) × (n / 2 ^ d % 2 ≡ 1) × (get_or (roots n) j 0 ≡ index d (n / 2 ^ d - 1))
root_at n =
    each_root (λ i. (d : ℕ) × (d < 21) × (n / 2 ^ d % 2 ≡ 1) × (i ≡ index d (n / 2 ^ d - 1))) n (λ d l e. (d, l, e, refl))

-- ---- the roots before and after an append

-- the roots of c bits of n, from the bit d upward
unfoldable pub roots_above : ℕ → ℕ → ℕ → List ℕ
roots_above zero d n = []
roots_above (suc c) d n = root_of (c + d) n ++ roots_above c d n

pub roots_split : (c d n : ℕ) → roots_below (c + d) n ≡ roots_above c d n ++ roots_below d n
unfolding roots_below roots_above
roots_split zero d n = ap (λ (x : ℕ). roots_below x n) (zero-add d)
roots_split (suc c) d n =
    ap (λ (x : ℕ). roots_below x n) (suc-add c d)
    ∙ ap (λ (l : List ℕ). root_of (c + d) n ++ l) (roots_split c d n)
    ∙ sym (append_assoc (root_of (c + d) n) (roots_above c d n) (roots_below d n))

pub above_snoc : (c d n : ℕ) → roots_above (suc c) d n ≡ roots_above c (suc d) n ++ root_of d n
unfolding roots_above
above_snoc zero d n = ap (λ (x : ℕ). root_of x n ++ []) (zero-add d) ∙ append-nil (root_of d n)
above_snoc (suc c) d n =
    ap₂ (λ (x : ℕ) (l : List ℕ). root_of x n ++ l) (suc-add c d ∙ sym (add-suc c d)) (above_snoc c d n)
    ∙ sym (append_assoc (root_of (c + suc d) n) (roots_above c (suc d) n) (root_of d n))

-- The roots that an append of the chunk n takes up, c of them from the depth d upward, the largest first: each is the left
-- sibling of the node that the append completes at its depth.
unfoldable pub siblings : ℕ → ℕ → ℕ → List ℕ
siblings n d zero = []
siblings n d (suc c) = siblings n (suc d) c ++ (index d ((n + 1) / 2 ^ d - 2) ∷ [])

-- of the chunk number index (d + e) q the bits from d upward, and those of the number after it
shifted : (d e q : ℕ) → index (d + e) q / 2 ^ d ≡ index e q
shifted d e q =
    ap (λ (x : ℕ). x / 2 ^ d) split ∙ digits_div (index e q) (ones_lt d)
  where
    split : index (d + e) q ≡ index e q * 2 ^ d + (2 ^ d - 1)
    split = omega (arith, last_block d e q, block_end d (index e q), pow_pos d)

shifted_next : (d e q : ℕ) → (index (d + e) q + 1) / 2 ^ d ≡ index e q + 1
shifted_next d e q = div-eq_of_eq-mul_left (pow_pos d) (last_block d e q)

-- the roots of the bits below the depth z are siblings, before the append
waiting : (c d e q : ℕ) → roots_above c d (index (d + (c + e)) q) ≡ siblings (index (d + (c + e)) q) d c
unfolding roots_above siblings
waiting zero d e q = refl
waiting (suc c) d e q =
    let n : ℕ = index (d + (suc c + e)) q in
    let m : ℕ = index (c + e) q in
    let at : n ≡ index (suc d + (c + e)) q = ap (λ (x : ℕ). index x q) (omega arith) in
    let here : n / 2 ^ d ≡ 2 * m + 1 = shifted d (suc c + e) q ∙ (ap (λ (x : ℕ). index x q) (suc-add c e) ∙ index_suc (c + e) q) in
    let next : (n + 1) / 2 ^ d ≡ 2 * m + 1 + 1 =
    shifted_next d (suc c + e) q ∙ ap (λ (x : ℕ). x + 1) (ap (λ (x : ℕ). index x q) (suc-add c e) ∙ index_suc (c + e) q)
    in
    above_snoc c d n
    ∙ ap₂ ◌++◌
    (subst (λ (x : ℕ). roots_above c (suc d) x ≡ siblings x (suc d) c) (sym at) (waiting c (suc d) e q))
    (one_root d n (ap (λ (x : ℕ). x % 2) here ∙ omega arith) ∙ ap (λ (x : ℕ). index d x ∷ []) (omega arith))

-- after it those bits are 0
cleared : (c d e q : ℕ) → roots_above c d (index (d + (c + e)) q + 1) ≡ []
unfolding roots_above
cleared zero d e q = refl
cleared (suc c) d e q =
    let n : ℕ = index (d + (suc c + e)) q in
    let m : ℕ = index (c + e) q in
    let at : n ≡ index (suc d + (c + e)) q = ap (λ (x : ℕ). index x q) (omega arith) in
    let next : (n + 1) / 2 ^ d ≡ 2 * m + 1 + 1 =
    shifted_next d (suc c + e) q ∙ ap (λ (x : ℕ). x + 1) (ap (λ (x : ℕ). index x q) (suc-add c e) ∙ index_suc (c + e) q)
    in
    above_snoc c d (n + 1)
    ∙ ap₂ ◌++◌
    (subst (λ (x : ℕ). roots_above c (suc d) (x + 1) ≡ []) (sym at) (cleared c (suc d) e q))
    (no_root d (n + 1) (ap (λ (x : ℕ). x % 2) next ∙ omega arith))

-- the bits above the depth z stay
stay : (c z q : ℕ) → roots_above c (suc z) (index z q) ≡ roots_above c (suc z) (index z q + 1)
unfolding roots_above
stay zero z q = refl
stay (suc c) z q = ap₂ ◌++◌ (same_root (c + suc z) (index z q) (index z q + 1) (high c)) (stay c z q)
  where
    at : (n : ℕ) → n / 2 ^ z / 2 ≡ q → (c : ℕ) → n / 2 ^ (c + suc z) ≡ q / 2 ^ c
    at n e c =
        ap (λ (x : ℕ). n / 2 ^ x) (add_comm c (suc z))
        ∙ sym (shr-shr n (suc z) c)
        ∙ ap (λ (x : ℕ). x / 2 ^ c) (ap (λ (x : ℕ). n / x) (pow-suc 2 z) ∙ sym (div-div-eq-div-mul n (2 ^ z) 2) ∙ e)

    low : index (z + 0) q / 2 ^ z / 2 ≡ q
    low = ap (λ (x : ℕ). x / 2) (shifted z 0 q ∙ index_leaf q) ∙ omega arith

    low_next : (index (z + 0) q + 1) / 2 ^ z / 2 ≡ q
    low_next = ap (λ (x : ℕ). x / 2) (shifted_next z 0 q ∙ ap (λ (x : ℕ). x + 1) (index_leaf q)) ∙ omega arith

    high : (c : ℕ) → index z q / 2 ^ (c + suc z) ≡ (index z q + 1) / 2 ^ (c + suc z)
    high c =
        at (index z q) (subst (λ (x : ℕ). index x q / 2 ^ z / 2 ≡ q) (add-zero z) low) c
        ∙ sym (at (index z q + 1) (subst (λ (x : ℕ). (index x q + 1) / 2 ^ z / 2 ≡ q) (add-zero z) low_next) c)

-- An append of the chunk n takes the last roots of n, as many as it completes parents, and puts one root in their place.
pub record Carried (n : ℕ) : Type 0 where
  pub kept : List ℕ
  pub before : roots n ≡ kept ++ siblings n 0 (completed n)
  pub after : roots (n + 1) ≡ kept ++ (index (completed n) ((n + 1) / 2 ^ completed n - 1) ∷ [])

below_above : (z n : ℕ) → roots_below z n ≡ roots_above z 0 n
unfolding roots_below
below_above z n = ap (λ (x : ℕ). roots_below x n) (sym (add-zero z)) ∙ roots_split z 0 n ∙ append-nil (roots_above z 0 n)

carried_at : (c z q : ℕ)
    → (roots_below (c + suc z) (index z q) ≡ roots_above c (suc z) (index z q) ++ siblings (index z q) 0 z)
    × (roots_below (c + suc z) (index z q + 1) ≡ roots_above c (suc z) (index z q) ++ (index z ((index z q + 1) / 2 ^ z - 1) ∷ []))
unfolding roots_below
carried_at c z q = (
  roots_split c (suc z) n
      ∙ ap (λ (l : List ℕ). roots_above c (suc z) n ++ l)
      (ap₂ ◌++◌ (no_root z n (ap (λ (x : ℕ). x % 2) even ∙ omega arith)) (below_above z n ∙ subst (λ (x : ℕ). roots_above z 0 (index x q) ≡ siblings (index x q) 0 z) plain (waiting z 0 0 q))),
  roots_split c (suc z) (n + 1)
      ∙ ap₂ ◌++◌ (sym (stay c z q))
      (ap₂ ◌++◌ (one_root z (n + 1) (ap (λ (x : ℕ). x % 2) odd ∙ omega arith)) (below_above z (n + 1) ∙ subst (λ (x : ℕ). roots_above z 0 (index x q + 1) ≡ []) plain (cleared z 0 0 q))),
)
  where
    n : ℕ
    n = index z q

    plain : 0 + (z + 0) ≡ z
    plain = omega arith

    even : index z q / 2 ^ z ≡ 2 * q
    even = subst (λ (x : ℕ). index x q / 2 ^ z ≡ 2 * q) (add-zero z) (shifted z 0 q ∙ index_leaf q)

    odd : (index z q + 1) / 2 ^ z ≡ 2 * q + 1
    odd = subst (λ (x : ℕ). (index x q + 1) / 2 ^ z ≡ 2 * q + 1) (add-zero z) (shifted_next z 0 q ∙ ap (λ (x : ℕ). x + 1) (index_leaf q))

-- no append completes more than 20 parents
pub completed_le : (w n : ℕ) → n < 2 ^ w → w < 64 → completed n ≤ w
completed_le w n h l =
    subst (λ (x : ℕ). x ≤ w) (sym (completed_depth n (omega (arith, pow-lt l))))
    (le_of_suc-le-suc (pow_below (depth n) (suc w) (omega (arith, subst (λ (x : ℕ). 2 ^ depth n ≤ x + 1) (index_of n) (pow_le_index (depth n) (block n)), pow-succ' 2 w, pow_pos w))))

-- at each depth that it completes the block of the chunk is numbered from 0, and below the count of the chunks
module _ (n d : ℕ) (few : n < 1048576) (h : d ≤ completed n) where
  pub completed_few : d ≤ 20
  completed_few = omega (arith, completed_le 20 n few (omega arith))

  pub completed_block : (1 ≤ (n + 1) / 2 ^ d) × ((n + 1) / 2 ^ d ≤ n + 1)
  completed_block =
      let q : (n + 1) / 2 ^ d ≡ (n + 1) / 2 ^ d - 1 + 1 = div-eq_of_eq-mul_left (pow_pos d) (sym (completed_end n d (omega arith) h)) in
      (omega arith, div-le_self (n + 1) (2 ^ d))

pub carried : (n : ℕ) → n < 2 ^ 20 → Carried n
unfolding roots
carried n h =
    record {
      kept = roots_above c (suc z) n;
      before =
          subst (λ (m : ℕ). roots_below 21 m ≡ roots_above c (suc z) m ++ siblings m 0 z) at
          (ap (λ (x : ℕ). roots_below x (index z q)) (sym all) ∙ (carried_at c z q).0);
      after =
          subst (λ (m : ℕ). roots_below 21 (m + 1) ≡ roots_above c (suc z) m ++ (index z ((m + 1) / 2 ^ z - 1) ∷ [])) at
          (ap (λ (x : ℕ). roots_below x (index z q + 1)) (sym all) ∙ (carried_at c z q).1);
    }
  where
    z : ℕ
    z = completed n

    q : ℕ
    q = block n

    c : ℕ
    c = 20 - completed n

    at : index (completed n) (block n) ≡ n
    at = ap (λ (x : ℕ). index x (block n)) (completed_depth n (omega arith)) ∙ index_of n

    all : (20 - completed n) + suc (completed n) ≡ 21
    all = omega (arith, completed_le 20 n h (omega arith))

-- each sibling is the left child, and the node completed beneath is the right child, of the node that is completed next
pub completed_half : (n d : ℕ) → n + 1 < 2 ^ 64 → suc d ≤ completed n → (n + 1) / 2 ^ d ≡ 2 * ((n + 1) / 2 ^ suc d - 1) + 2
completed_half n d l h =
    let r = le_dest h in
    let at : index (suc d + r.0) (block n) ≡ n = ap (λ (x : ℕ). index x (block n)) (r.1 ∙ completed_depth n l) ∙ index_of n in
    let hi : (n + 1) / 2 ^ suc d ≡ index r.0 (block n) + 1 =
    subst (λ (m : ℕ). (m + 1) / 2 ^ suc d ≡ index r.0 (block n) + 1) at (shifted_next (suc d) r.0 (block n))
    in
    let half : (n + 1) / 2 ^ d / 2 ≡ (n + 1) / 2 ^ suc d =
    div-div-eq-div-mul (n + 1) (2 ^ d) 2 ∙ ap (λ (x : ℕ). (n + 1) / x) (sym (pow-suc 2 d))
    in
    let even : (n + 1) / 2 ^ d ≡ index (suc r.0) (block n) + 1 =
    subst (λ (m : ℕ). (m + 1) / 2 ^ d ≡ index (suc r.0) (block n) + 1)
    (ap (λ (x : ℕ). index x (block n)) (add-suc d r.0 ∙ sym (suc-add d r.0)) ∙ at) (shifted_next d (suc r.0) (block n))
    in
    omega (arith, index_suc r.0 (block n))
