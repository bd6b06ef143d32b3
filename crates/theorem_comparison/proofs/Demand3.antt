-- Demand 3, proved.
-- Assumes nothing.
use Prim.Native.Nat.{ℕ, ◌<◌}
use mathlib.Core.Path.{◌≡◌, sym, ap, ◌∙◌, subst}
use mathlib.Core.Logic.{◌≢◌, ◌↔◌, inl, inr}
use mathlib.Core.List.{List}
use native.Mathlib.Decide.{dec_lt}
use native.Mathlib.Omega.{arith}
use Rattle.file_format.specs.Messages.{HashFunction}
use Rattle.file_format.specs.Images.{root_hash_for, root_message_for, message_for}
use Rattle.file_format.specs.Slots.{all_held, Within}
use Rattle.file_format.specs.Belongs.{Register, Belongs}
use Rattle.audit.specs.Audit.{Accepted}
use Rattle.audit.proofs.Accepts.{has_register}
use Rattle.compare.specs.Walk.{Comparison, roots_differ, at_roots, at_index, equal, compare}
use Rattle.theorem_comparison.specs.Demand3.{Collision, CollisionAt, NamesCollision, Tells, Demand3ForAll}
use Rattle.theorem_comparison.proofs.Descent.{one_sequence}
use Rattle.theorem_comparison.proofs.Walk.{Answer, differ, roots, place, same, answer}
use Rattle.theorem_comparison.proofs.Agree.{compare_walks}

-- one answer isn't two: from `w ≡ equal` and `w ≡ at_roots`, say, congruence has this equation
never : ◌≡◌ {A = ℕ} 0 1 → ⊥
never e = omega arith

module _ (F : List ℕ → List ℕ) (cs ds : List (List ℕ)) where
  -- what a collision rules out
  not_equal : {i : ℕ} → CollisionAt F cs ds i → cs ≢ ds
  not_equal {i} c e = c.collision.differ (ap (λ (es : List (List ℕ)). message_for F (all_held es) i) e)

  -- two lowest collisions stand at one index
  one_place : (i j : ℕ) → CollisionAt F cs ds i → CollisionAt F cs ds j → ((k : ℕ) → k < i → CollisionAt F cs ds k → ⊥)
      → ((k : ℕ) → k < j → CollisionAt F cs ds k → ⊥) → i ≡ j
  one_place i j c d p q =
      elim (dec_lt i j) [
        | yes l ↦ absurd (q i l c)
        | no l ↦ elim (dec_lt j i) [ yes m ↦ absurd (p j m d) | no m ↦ omega arith ]
      ]

  -- every claim of `Tells`, of an answer w that says what it must
  module _ (w : Comparison) (one : root_message_for F (all_held cs) ≡ root_message_for F (all_held ds) → ((i : ℕ) → CollisionAt F cs ds i → ⊥) → cs ≡ ds) where
    equal_exactly_lem : Answer F cs ds w → (w ≡ equal) ↔ (cs ≡ ds)
    equal_exactly_lem (differ e h) = ((λ g. absurd (never cc)), (λ g. absurd (h (ap (λ (l : List (List ℕ)). root_hash_for F (all_held l)) g))))
    equal_exactly_lem (roots e c) = ((λ g. absurd (never cc)), (λ g. absurd (c.differ (ap (λ (l : List (List ℕ)). root_message_for F (all_held l)) g))))
    equal_exactly_lem (place i e r c p) = ((λ g. absurd (never cc)), (λ g. absurd (not_equal c g)))
    equal_exactly_lem (same e r p) = ((λ g. one r p), (λ g. e))

    differ_exactly : Answer F cs ds w → (w ≡ roots_differ) ↔ (root_hash_for F (all_held cs) ≢ root_hash_for F (all_held ds))
    unfolding root_hash_for
    differ_exactly (differ e h) = ((λ g. h), (λ g. e))
    differ_exactly (roots e c) = ((λ g. absurd (never cc)), (λ g. absurd (g c.one_hash)))
    differ_exactly (place i e r c p) = ((λ g. absurd (never cc)), (λ g. absurd (g (ap F r))))
    differ_exactly (same e r p) = ((λ g. absurd (never cc)), (λ g. absurd (g (ap F r))))

    named : Answer F cs ds w → w ≢ equal → w ≢ roots_differ → NamesCollision w
    named (differ e h) p q = absurd (q e)
    named (roots e c) p q = inl e
    named (place i e r c _) p q = inr (i, e)
    named (same e r _) p q = absurd (p e)

    roots_exactly : Answer F cs ds w → (w ≡ at_roots) ↔ Collision F (root_message_for F (all_held cs)) (root_message_for F (all_held ds))
    unfolding root_hash_for
    roots_exactly (differ e h) = ((λ g. absurd (never cc)), (λ g. absurd (h g.one_hash)))
    roots_exactly (roots e c) = ((λ g. c), (λ g. e))
    roots_exactly (place i e r c p) = ((λ g. absurd (never cc)), (λ g. absurd (g.differ r)))
    roots_exactly (same e r p) = ((λ g. absurd (never cc)), (λ g. absurd (g.differ r)))

    -- the lowest collision of messages under one root message
    abbrev LowestAt : ℕ → Type 0
    LowestAt i = (root_message_for F (all_held cs) ≡ root_message_for F (all_held ds)) × CollisionAt F cs ds i × ((j : ℕ) → j < i → CollisionAt F cs ds j → ⊥)

    index_exactly : Answer F cs ds w → (i : ℕ) → (w ≡ at_index i) ↔ LowestAt i
    unfolding root_hash_for
    index_exactly (differ e h) i = ((λ g. absurd (never cc)), (λ g. absurd (h (ap F g.0))))
    index_exactly (roots e c) i = ((λ g. absurd (never cc)), (λ g. absurd (c.differ g.0)))
    index_exactly (place j e r c p) i =
        ((λ g. let s : j ≡ i = cc in subst LowestAt s (r, c, p)), (λ g. e ∙ ap at_index (one_place j i c g.1 p g.2)))
    index_exactly (same e r p) i = ((λ g. absurd (never cc)), (λ g. absurd (p i g.1)))

    same_exactly_lem : Answer F cs ds w → (cs ≡ ds) ↔ ((root_hash_for F (all_held cs) ≡ root_hash_for F (all_held ds)) × (NamesCollision w → ⊥))
    same_exactly_lem (differ e h) = ((λ g. absurd (h (ap (λ (l : List (List ℕ)). root_hash_for F (all_held l)) g))), (λ g. absurd (h g.0)))
    same_exactly_lem (roots e c) = ((λ g. absurd (c.differ (ap (λ (l : List (List ℕ)). root_message_for F (all_held l)) g))), (λ g. absurd (g.1 (inl e))))
    same_exactly_lem (place i e r c p) = ((λ g. absurd (not_equal c g)), (λ g. absurd (g.1 (inr (i, e)))))
    same_exactly_lem (same e r p) = ((λ g. (ap (λ (l : List (List ℕ)). root_hash_for F (all_held l)) g, unnamed)), (λ g. one r p))
      where
        unnamed : NamesCollision w → ⊥
        unnamed (inl g) = never cc
        unnamed (inr g) = let h : w ≡ at_index g.0 = g.1 in never cc

module _ (F : List ℕ → List ℕ) (H : HashFunction F) where
  -- of every two accepted registers
  pub tells : (cs ds : List (List ℕ)) → Within (all_held cs) → Within (all_held ds) → (a b : Register) → Accepted F a → Accepted F b → Belongs F a (all_held cs) → Belongs F b (all_held ds)
      → Tells F a b cs ds
  tells cs ds W W' a b A A' B B' =
      record {
        equal_exactly = equal_exactly_lem F cs ds w one v;
        roots_differ_exactly = differ_exactly F cs ds w one v;
        otherwise = named F cs ds w one v;
        at_roots_exactly = roots_exactly F cs ds w one v;
        at_index_exactly = index_exactly F cs ds w one v;
        cuts_tell = λ same d e. d ((equal_exactly_lem F cs ds w one v).0 e);
        same_exactly = same_exactly_lem F cs ds w one v;
      }
    where
      w : Comparison
      w = compare F a b

      v : Answer F cs ds w
      v = subst (Answer F cs ds) (sym (compare_walks F H cs ds W W' a b B B' A A')) (answer F cs ds H W W')

      one : root_message_for F (all_held cs) ≡ root_message_for F (all_held ds) → ((i : ℕ) → CollisionAt F cs ds i → ⊥) → cs ≡ ds
      one = one_sequence F H cs ds W W'

pub demand_3 : Demand3ForAll
demand_3 F H = record { tells = tells F H; has = λ cs W. has_register F (all_held cs) H W }
