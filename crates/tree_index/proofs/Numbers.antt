-- An array of tree indexes, as the list of its numbers.
-- Assumes nothing.
use Prim.Native.Nat.{ℕ, zero, suc, ◌-◌, ◌≤◌, ◌<◌}
use mathlib.Core.Path.{◌≡◌, refl, sym, ap, ◌∙◌}
use mathlib.Core.List.{List, [], ◌∷◌, ◌++◌}
use native.Mathlib.Omega.{arith}
use lib.ListN.{length, get_or, set, take, replicate, get_or-map, get_or-append, length-append, length-map, length-take}
use lib.Seq.{get_or-take}
use Rattle.number_types.specs.declared.TreeIndex.{TreeIndex}
use Rattle.tree_index.specs.Tree.{roots}
use Rattle.tree_index.specs.Numbers.{numbers}

pub numbers_set : (l : List TreeIndex) (i : ℕ) (v : TreeIndex) → numbers (set l i v) ≡ set (numbers l) i v.0
unfolding numbers
numbers_set [] i v = refl
numbers_set (x ∷ l) zero v = refl
numbers_set (x ∷ l) (suc i) v = ap (λ (t : List ℕ). x.0 ∷ t) (numbers_set l i v)

pub numbers_at_lem : (l : List TreeIndex) (j : ℕ) (d : TreeIndex) → get_or (numbers l) j d.0 ≡ (get_or l j d).0
unfolding numbers
numbers_at_lem l j d = get_or-map (λ (i : TreeIndex). i.0) l j d

-- an element of an array that begins with the numbers xs, as the roots stand in theirs
pub number_in : (l : List TreeIndex) (xs ys : List ℕ) (j : ℕ) (d : TreeIndex) → numbers l ≡ xs ++ ys → j < length xs → (get_or l j d).0 ≡ get_or xs j d.0
number_in l xs ys j d e h =
    sym (numbers_at_lem l j d) ∙ ap (λ (t : List ℕ). get_or t j d.0) e ∙ get_or-append xs ys d.0 j h

-- where a loop over the front of an array that holds the roots is, and where it ends
module _ (is : List TreeIndex) (n : ℕ) {m j : ℕ} (f : m ≡ length (roots n)) (e : numbers is ≡ roots n ++ replicate (20 - length (roots n)) 0) where
  pub root_lent : j < length (take (m - 0) is) → (j < length (roots n)) × ((get_or (take (m - 0) is) j (record { 0 = 0 })).0 ≡ get_or (roots n) j 0)
  root_lent h =
      let l : j < m - 0 = omega (arith, length-take (m - 0) is) in
      let g : j < length (roots n) = omega arith in (
        g,
        ap (λ (i : TreeIndex). i.0) (get_or-take (m - 0) is j (record { 0 = 0 }) l)
            ∙ number_in is (roots n) (replicate (20 - length (roots n)) 0) j (record { 0 = 0 }) e g,
      )

  pub roots_lent : length (take (m - 0) is) ≤ j → length (roots n) ≤ j
  unfolding numbers
  roots_lent h =
      omega (arith, length-take (m - 0) is, length-map is (λ (i : TreeIndex). i.0), ap length e, length-append (roots n) (replicate (20 - length (roots n)) 0))

  pub roots_ended : j ≤ length (take (m - 0) is) → length (take (m - 0) is) ≤ j → j ≡ length (roots n)
  roots_ended l h = omega (arith, length-take (m - 0) is, roots_lent h)
