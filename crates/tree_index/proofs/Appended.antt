-- What appending the chunk n fills.
-- Assumes nothing.
use Prim.Native.Nat.{ℕ, zero, suc, ◌+◌, ◌-◌, ◌*◌, ◌/◌, ◌^◌, ◌≤◌, ◌<◌, suc-le-suc, zero-le}
use mathlib.Core.Path.{◌≡◌, refl, sym, ap, ap₂, ◌∙◌, subst}
use mathlib.Core.Bool.{Bool, true, false, ◌||◌}
use mathlib.Core.Logic.{◌⊎◌, inl, inr}
use native.Mathlib.Nat.{mul_assoc, mul_comm, le_dest, le_antisymm, div-eq_of_eq-mul_left, zero-add}
use native.Mathlib.Omega.{arith}
use borrow.Author.Tests.{ltb-true, ltb-false}
use lib.Dec.{ltb}
use lib.Pow.{pow_pos, pow-add}
use Rattle.byte_strings.specs.Lists.{run, among}
use Rattle.tree_index.specs.Tree.{index, depth, block, filled, completed, filled_by}
use Rattle.tree_index.proofs.Index.{index_of, by_coordinates, index_closed, pow_twice, completed_depth}
use Rattle.tree_index.proofs.Filled.{end_filled, end_hole}
use Rattle.tree_index.proofs.Runs.{among_in, among_of}

-- below a node of the depth d + e, its last block of the depth d
pub last_block : (d e k : ℕ) → index (d + e) k + 1 ≡ (index e k + 1) * 2 ^ d
last_block d e k =
    index_closed (d + e) k
    ∙ ap (λ (x : ℕ). x * (2 * k + 1)) (pow-add 2 d e)
    ∙ mul_assoc (2 ^ d) (2 ^ e) (2 * k + 1)
    ∙ mul_comm (2 ^ d) (2 ^ e * (2 * k + 1))
    ∙ ap (λ (x : ℕ). x * 2 ^ d) (sym (index_closed e k))

-- at each completed depth d the chunk n is the last of a block, and that block is the tree index that is filled
pub completed_end : (n d : ℕ) → n + 1 < 2 ^ 64 → d ≤ completed n → ((n + 1) / 2 ^ d - 1 + 1) * 2 ^ d ≡ n + 1
completed_end n d l h =
    let r = le_dest h in
    let m : ℕ = index r.0 (block n) in
    let at : index (d + r.0) (block n) ≡ n = ap (λ (x : ℕ). index x (block n)) (r.1 ∙ completed_depth n l) ∙ index_of n in
    let e : n + 1 ≡ (m + 1) * 2 ^ d = ap (λ (x : ℕ). x + 1) (sym at) ∙ last_block d r.0 (block n) in
    let q : (n + 1) / 2 ^ d ≡ m + 1 = div-eq_of_eq-mul_left (pow_pos d) e in
    ap (λ (x : ℕ). x * 2 ^ d) (omega arith) ∙ sym e

divides : (d z k q : ℕ) → (k + 1) * 2 ^ d ≡ index z q + 1 → d ≤ z
unfolding index
divides zero z k q e = zero-le
divides (suc d) zero k q e = absurd (omega (arith, pow_twice (k + 1) d))
divides (suc d) (suc z) k q e = suc-le-suc (divides d z k q (omega (arith, pow_twice (k + 1) d)))

-- and those are all blocks that end with the chunk n
pub completed_only : (n d k : ℕ) → n + 1 < 2 ^ 64 → (k + 1) * 2 ^ d ≡ n + 1 → (d ≤ completed n) × (k ≡ (n + 1) / 2 ^ d - 1)
completed_only n d k l e =
    let q : (n + 1) / 2 ^ d ≡ k + 1 = div-eq_of_eq-mul_left (pow_pos d) (sym e) in (
      subst (λ (x : ℕ). d ≤ x) (sym (completed_depth n l)) (divides d (depth n) k (block n) (e ∙ ap (λ (x : ℕ). x + 1) (sym (index_of n)))),
      omega arith,
    )

-- each tree index that an append fills is filled with it, and not before
pub newly_filled_lem : (n d : ℕ) → n + 1 < 2 ^ 64 → d ≤ completed n → filled (n + 1) (index d ((n + 1) / 2 ^ d - 1)) ≡ true
newly_filled_lem n d l h = end_filled (n + 1) d ((n + 1) / 2 ^ d - 1) (omega (arith, completed_end n d l h))

pub newly_hole : (n d : ℕ) → n + 1 < 2 ^ 64 → d ≤ completed n → filled n (index d ((n + 1) / 2 ^ d - 1)) ≡ false
newly_hole n d l h = end_hole n d ((n + 1) / 2 ^ d - 1) (omega (arith, completed_end n d l h))

-- the same of an index that is one of those
pub filled_by_at : (n i : ℕ) → among i (filled_by n) ≡ true → (d : ℕ) × (d ≤ completed n) × (i ≡ index d ((n + 1) / 2 ^ d - 1))
unfolding filled_by
filled_by_at n i h =
    let r = among_of i (λ d. index d ((n + 1) / 2 ^ d - 1)) 0 (completed n + 1) h in
    (r.0, omega (arith, r.1), r.2 ∙ ap (λ d. index d ((n + 1) / 2 ^ d - 1)) (zero-add r.0))

pub filled_by_in : (n d : ℕ) → d ≤ completed n → among (index d ((n + 1) / 2 ^ d - 1)) (filled_by n) ≡ true
unfolding filled_by
filled_by_in n d h =
    subst (λ (x : ℕ). among (index x ((n + 1) / 2 ^ x - 1)) (run (λ d. index d ((n + 1) / 2 ^ d - 1)) 0 (completed n + 1)) ≡ true) (zero-add d)
    (among_in (λ d. index d ((n + 1) / 2 ^ d - 1)) 0 (completed n + 1) d (omega arith))

pub filled_by_filled : (n i : ℕ) → n + 1 < 2 ^ 64 → among i (filled_by n) ≡ true → filled (n + 1) i ≡ true
filled_by_filled n i l h = let r = filled_by_at n i h in ap (filled (n + 1)) r.2 ∙ newly_filled_lem n r.0 l r.1

-- an append fills those and no other
three : (a b : ℕ) → (a < b) ⊎ ((a ≡ b) ⊎ (b < a))
three a b = pick (ltb a b) refl (ltb b a) refl
  where
    pick : (s : Bool) → ltb a b ≡ s → (t : Bool) → ltb b a ≡ t → (a < b) ⊎ ((a ≡ b) ⊎ (b < a))
    pick true e t f = inl (ltb-true a b e)
    pick false e true f = inr (inr (ltb-true b a f))
    pick false e false f = inr (inl (le_antisymm (ltb-false b a f) (ltb-false a b e)))

is_false : (b : Bool) → (b ≡ true → ⊥) → b ≡ false
is_false true h = absurd (h refl)
is_false false h = refl

pub filled_suc : (n i : ℕ) → n < 2 ^ 32 → filled (n + 1) i ≡ (filled n i || among i (filled_by n))
filled_suc n i l = by_coordinates (λ j. filled (n + 1) j ≡ (filled n j || among j (filled_by n))) (λ d k. go d k (three ((k + 1) * 2 ^ d) (n + 1))) i
  where
    small : n + 1 < 2 ^ 64
    small = omega arith

    go : (d k : ℕ) → ((k + 1) * 2 ^ d < n + 1) ⊎ (((k + 1) * 2 ^ d ≡ n + 1) ⊎ (n + 1 < (k + 1) * 2 ^ d))
        → filled (n + 1) (index d k) ≡ (filled n (index d k) || among (index d k) (filled_by n))
    go d k (inl h) =
        end_filled (n + 1) d k (omega arith) ∙ sym (ap (λ (b : Bool). b || among (index d k) (filled_by n)) (end_filled n d k (omega arith)))
    go d k (inr (inl h)) =
        let r = completed_only n d k small h in
        end_filled (n + 1) d k (omega arith)
        ∙ sym (ap₂ ◌||◌ (end_hole n d k (omega arith)) (ap (λ (x : ℕ). among (index d x) (filled_by n)) r.1 ∙ filled_by_in n d r.0))
    go d k (inr (inr h)) =
        let hole : filled (n + 1) (index d k) ≡ false = end_hole (n + 1) d k h in
        let none : among (index d k) (filled_by n) ≡ false =
        is_false (among (index d k) (filled_by n)) (λ t. let f = filled_by_filled n (index d k) small t in let z : ◌≡◌ {A = ℕ} 0 1 = cc in omega arith)
        in
        hole ∙ sym (ap₂ ◌||◌ (end_hole n d k (omega arith)) none)
