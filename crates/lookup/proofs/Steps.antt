-- The steps of the descent at one node, by its tree index.
-- Assumes nothing.
use Prim.Native.Nat.{ℕ, zero, suc, ◌+◌, ◌*◌, ◌<◌}
use mathlib.Core.Path.{◌≡◌, refl, sym, ap, ap₂, ◌∙◌, subst}
use mathlib.Core.Bool.{Bool, true, false, cond}
use mathlib.Core.List.{List, [], ◌∷◌}
use native.Mathlib.Omega.{arith}
use borrow.Author.Tests.{eq-eqb, ne_eqb}
use lib.Dec.{eqb}
use Rattle.byte_strings.specs.Lowest.{Lowest, nowhere, first}
use Rattle.tree_index.specs.Tree.{index, depth, block, left_child, right_child, filled}
use Rattle.tree_index.proofs.Index.{depth_index, block_index}
use Rattle.file_format.specs.Stored.{stored_size}
use Rattle.lookup.proofs.Visits.{filled_entry, filled_stands, by_parents, at_wrong_sum}
use Rattle.lookup.specs.Unknown.{first_unknown, children_read}
use Rattle.lookup.proofs.Unknown.{filled_children, children_leaf, children_parent, entry_bit}
use Rattle.lookup.specs.Descent.{Ending, stopped, unknown, if_known, always, descend}
use Rattle.lookup.specs.Inner.{ChildrenIn, Standing, StandsAt, Turned, Onward}

-- ---- where a descent may stand

module _ {partly : Bool} {tree bits : List ℕ} {i start : ℕ} (s : Standing partly tree bits i start) where
  pub standing_in : StandsAt tree i start
  standing_in = filled_stands tree s.n i start s.files.roots.count s.files.roots.inside s.entry s.fits

  pub standing_children : ChildrenIn partly bits i
  standing_children =
      record {
        small = (filled_entry tree s.n i s.files.roots.count s.files.roots.inside s.entry).small;
        left = λ h p. entry_bit bits s.n (left_child i) (s.files.bitfield p) (filled_children s.n i h s.entry).0;
        right = λ h p. entry_bit bits s.n (right_child i) (s.files.bitfield p) (filled_children s.n i h s.entry).1;
      }

  pub standing_next : (within : ℕ → ℕ → ℕ → ℕ → Bool) (j from : ℕ) → Onward within tree i start j from → StandsAt tree j from → Standing partly tree bits j from
  standing_next within j from o a =
      go (within (depth (left_child i)) (block (left_child i)) start (stored_size tree (left_child i))) o.turned
    where
      at : (x : ℕ) → filled s.n x ≡ true → j ≡ x → Standing partly tree bits j from
      at x f e = record { n = s.n; files = s.files; entry = subst (λ (y : ℕ). filled s.n y ≡ true) (sym e) f; fits = a.fits }

      go : (b : Bool) → Turned b tree i start j from → Standing partly tree bits j from
      go true g = at (left_child i) (filled_children s.n i o.deep s.entry).0 g.0
      go false g = at (right_child i) (filled_children s.n i o.deep s.entry).1 g.0

-- ---- one step

module _ (known : ℕ → Bool) (within : ℕ → ℕ → ℕ → ℕ → Bool) (t : List ℕ) where
  -- the descent from the node at i
  abbrev pub from : ℕ → ℕ → Ending
  from i s = descend known within t (depth i) (block i) s

  -- what follows the reading of the children l and r of i
  abbrev turned : ℕ → ℕ → ℕ → Bool → Ending
  turned l r s w = elim w [ true ↦ from l s | false ↦ from r (s + stored_size t l) ]

  abbrev summed : ℕ → ℕ → ℕ → ℕ → Bool → Ending
  summed i l r s b = elim b [ true ↦ turned l r s (within (depth l) (block l) s (stored_size t l)) | false ↦ stopped i ]

  abbrev judged : ℕ → ℕ → ℕ → ℕ → Ending
  judged i l r s = summed i l r s (eqb (stored_size t i) (stored_size t l + stored_size t r))

  at_index_lem : (s d k : ℕ) → descend known within t d k s ≡ from (index d k) s
  at_index_lem s d k = ap₂ (λ (e b : ℕ). descend known within t e b s) (sym (depth_index d k)) (sym (block_index d k))

  within_index : (s d k : ℕ) → within d k s (stored_size t (index d k)) ≡ within (depth (index d k)) (block (index d k)) s (stored_size t (index d k))
  within_index s d k = ap₂ (λ (x y : ℕ). within x y s (stored_size t (index d k))) (sym (depth_index d k)) (sym (block_index d k))

  -- the step at the block k of 2^(d+1) chunks, by the turn that it takes and where that leads
  abbrev step : ℕ → ℕ → Bool → Ending → Ending → Ending
  step d k w x y =
      if_known (known (index d (2 * k))) (index d (2 * k))
      (if_known (known (index d (2 * k + 1))) (index d (2 * k + 1))
      (elim (eqb (stored_size t (index (suc d) k)) (stored_size t (index d (2 * k)) + stored_size t (index d (2 * k + 1))))
      [ true ↦ elim w [ true ↦ x | false ↦ y ] | false ↦ stopped (index (suc d) k) ]))

  at_parent : (s i : ℕ) → 0 < depth i
      → from i s ≡ if_known (known (left_child i)) (left_child i) (if_known (known (right_child i)) (right_child i) (judged i (left_child i) (right_child i) s))
  unfolding descend
  at_parent s =
      by_parents (λ i l r. from i s ≡ if_known (known l) l (if_known (known r) r (judged i l r s)))
      (λ d k.
      let z : ℕ = s + stored_size t (index d (2 * k)) in
      sym (at_index_lem s (suc d) k)
      ∙ ap (λ (w : Bool). step d k w (descend known within t d (2 * k) s) (descend known within t d (2 * k + 1) z)) (within_index s d (2 * k))
      ∙ ap₂ (step d k (within (depth (index d (2 * k))) (block (index d (2 * k))) s (stored_size t (index d (2 * k))))) (at_index_lem s d (2 * k)) (at_index_lem z d (2 * k + 1)))

  -- a child that isn't known
  under : Lowest → Ending → Ending
  under nowhere e = e
  under (first j) e = unknown j

  children_under : (l r : ℕ) (e : Ending) → if_known (known l) l (if_known (known r) r e) ≡ under (first_unknown known (l ∷ r ∷ [])) e
  unfolding first_unknown under
  children_under l r e = go (known l) (known r)
    where
      go : (a b : Bool) → if_known a l (if_known b r e) ≡ under (cond a (cond b nowhere (first r)) (first l)) e
      go true true = refl
      go true false = refl
      go false b = refl

  parent_under : (s i : ℕ) → 0 < depth i → from i s ≡ under (first_unknown known (children_read (depth i) i)) (judged i (left_child i) (right_child i) s)
  parent_under s i h =
      at_parent s i h ∙ children_under (left_child i) (right_child i) (judged i (left_child i) (right_child i) s)
      ∙ ap (λ (is : List ℕ). under (first_unknown known is) (judged i (left_child i) (right_child i) s)) (sym (children_parent i h))

  at_leaf : (s i : ℕ) → depth i ≡ 0 → descend always within t (depth i) (block i) s ≡ from i s
  unfolding descend
  at_leaf s i e = ap (λ (d : ℕ). descend always within t d (block i) s) e ∙ sym (ap (λ (d : ℕ). descend known within t d (block i) s) e)

  leaf_knows : (i j : ℕ) → depth i ≡ 0 → first j ≡ first_unknown known (children_read (depth i) i) → ⊥
  unfolding first_unknown
  leaf_knows i j e f = let g = ap (first_unknown known) (children_leaf i e) in let z : ◌≡◌ {A = ℕ} 0 1 = cc in omega arith

  pub at_unknown : (s i j : ℕ) → first j ≡ first_unknown known (children_read (depth i) i) → unknown j ≡ from i s
  unfolding under
  at_unknown s i j f = go (depth i) refl
    where
      go : (d : ℕ) → depth i ≡ d → unknown j ≡ from i s
      go zero e = absurd (leaf_knows i j e f)
      go (suc d) e =
          ap (λ (x : Lowest). under x (judged i (left_child i) (right_child i) s)) f ∙ sym (parent_under s i (omega arith))

  -- where both are known
  both : (s i : ℕ) → 0 < depth i → nowhere ≡ first_unknown known (children_read (depth i) i) → judged i (left_child i) (right_child i) s ≡ from i s
  unfolding under
  both s i h f = ap (λ (x : Lowest). under x (judged i (left_child i) (right_child i) s)) f ∙ sym (parent_under s i h)

  pub at_end : (s i : ℕ) → nowhere ≡ first_unknown known (children_read (depth i) i)
      → (0 < depth i → stored_size t i ≡ stored_size t (left_child i) + stored_size t (right_child i) → ⊥)
      → descend always within t (depth i) (block i) s ≡ from i s
  at_end s i f w = go (depth i) refl
    where
      go : (d : ℕ) → depth i ≡ d → descend always within t (depth i) (block i) s ≡ from i s
      go zero e = at_leaf s i e
      go (suc d) e =
          let h : 0 < depth i = omega arith in
          at_wrong_sum within t s i h (w h)
          ∙ ap (summed i (left_child i) (right_child i) s) (sym (ne_eqb (stored_size t i) (stored_size t (left_child i) + stored_size t (right_child i)) (w h)))
          ∙ both s i h f

  pub at_down : (s i j y : ℕ) → nowhere ≡ first_unknown known (children_read (depth i) i) → Onward within t i s j y → from j y ≡ from i s
  at_down s i j y f o =
      go (within (depth (left_child i)) (block (left_child i)) s (stored_size t (left_child i))) o.turned
      ∙ ap (summed i (left_child i) (right_child i) s) (sym (eq-eqb (stored_size t i) (stored_size t (left_child i) + stored_size t (right_child i)) o.sum))
      ∙ both s i o.deep f
    where
      go : (b : Bool) → Turned b t i s j y → from j y ≡ turned (left_child i) (right_child i) s b
      go true g = ap₂ from g.0 g.1
      go false g = ap₂ from g.0 g.1
