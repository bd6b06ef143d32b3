-- The comparing walk on two accepted registers is the walk over the chunk sequences that they belong to.
-- Assumes nothing.
use Prim.Native.Nat.{ℕ}
use mathlib.Core.Path.{◌≡◌, refl, sym, ap, ◌∙◌}
use mathlib.Core.Bool.{Bool, true, false, cond, not, ◌&&◌}
use mathlib.Core.List.{List}
use lib.ListN.{length}
use Rattle.byte_strings.specs.Lists.{same_list}
use Rattle.byte_strings.proofs.Lists.{same_eq}
use Rattle.byte_strings.proofs.Lowest.{lowest_agree}
use Rattle.tree_index.specs.Tree.{filled, entries}
use Rattle.file_format.specs.Messages.{HashFunction}
use Rattle.file_format.specs.Images.{root_hash_for, root_message_for, message_for}
use Rattle.file_format.specs.Stored.{stored_hash, stored_message, stored_root_message}
use Rattle.file_format.specs.Slots.{all_held, Within}
use Rattle.file_format.specs.Belongs.{Register, Belongs}
use Rattle.file_format.proofs.Slots.{all_length}
use Rattle.file_format.proofs.AllHeld.{each_held}
use Rattle.file_format.proofs.OfImage.{stored_node_hash, stored_message_lem, stored_root_message_lem}
use Rattle.audit.specs.Audit.{Lowest, lowest, Accepted}
use Rattle.compare.specs.Walk.{Comparison, roots_differ, at_roots, found, walk, collides, unless_refused, compare}
use Rattle.compare.proofs.Local.{cond_same}
use Rattle.compare.proofs.Whole.{belongs_whole}
use Rattle.theorem_comparison.proofs.Roots.{hash_for, same_roots_lem}
use Rattle.theorem_comparison.proofs.Walk.{free, walk_for}

-- the test of one tree index reads messages and hashes only where the index is filled
guarded : (b : Bool) {x y : Bool} → (b ≡ true → x ≡ y) → not (b && x) ≡ not (b && y)
guarded true h = ap not (h refl)
guarded false h = refl

module _ (F : List ℕ → List ℕ) (H : HashFunction F) (cs ds : List (List ℕ)) (W : Within (all_held cs)) (W' : Within (all_held ds)) (a b : Register)
    (B : Belongs F a (all_held cs)) (B' : Belongs F b (all_held ds)) where
  -- no collision at the tree index i, as the walk tests it over what is stored
  abbrev stored_free : ℕ → Bool
  stored_free i =
      not (filled a.n i
      && collides (stored_message a.tree a.content i) (stored_message b.tree b.content i) (stored_hash a.tree i) (stored_hash b.tree i))

  counted : a.n ≡ length cs
  counted = B.count ∙ all_length cs

  -- where the root messages are the same, the two tests are
  one_test : root_message_for F (all_held cs) ≡ root_message_for F (all_held ds) → (i : ℕ) → stored_free i ≡ free F cs ds i
  one_test e i =
      guarded (filled a.n i) (λ f. both f (ap (λ (n : ℕ). filled n i) (sym count) ∙ f))
      ∙ ap (λ (n : ℕ). not (filled n i && collides (message_for F (all_held cs) i) (message_for F (all_held ds) i) (hash_for F cs i) (hash_for F ds i))) counted
    where
      count : a.n ≡ b.n
      count = counted ∙ (same_roots_lem F H cs ds W W' e).count ∙ sym (B'.count ∙ all_length ds)

      both : filled a.n i ≡ true → filled b.n i ≡ true
          → collides (stored_message a.tree a.content i) (stored_message b.tree b.content i) (stored_hash a.tree i) (stored_hash b.tree i)
          ≡ collides (message_for F (all_held cs) i) (message_for F (all_held ds) i) (hash_for F cs i) (hash_for F ds i)
      both f g = λ t. collides (stored_message_lem F H (all_held cs) W a B i f t) (stored_message_lem F H (all_held ds) W' b B' i g t) (stored_node_hash F H (all_held cs) W a B i f t)
          (stored_node_hash F H (all_held ds) W' b B' i g t)

  one_lowest : root_message_for F (all_held cs) ≡ root_message_for F (all_held ds)
      → lowest stored_free 0 (entries a.n) ≡ lowest (free F cs ds) 0 (entries (length cs))
  one_lowest e =
      lowest_agree stored_free (free F cs ds) 0 (entries a.n) (λ i _ _ _. one_test e i)
      ∙ ap (λ (n : ℕ). lowest (free F cs ds) 0 (entries n)) counted

  -- the walk's answer by the root messages and the lowest collision
  walked : List ℕ → List ℕ → Lowest → Comparison
  walked m₁ m₂ l = cond (same_list (F m₁) (F m₂)) (cond (same_list m₁ m₂) (found l) at_roots) roots_differ

  pub compare_walks : Accepted F a → Accepted F b → compare F a b ≡ walk_for F cs ds
  unfolding compare walk walk_for walked root_hash_for
  compare_walks p q =
      (λ t. unless_refused (belongs_whole F a (all_held cs) B (each_held F cs) p t) (belongs_whole F b (all_held ds) B' (each_held F ds) q t)
      (walked (stored_root_message a.tree a.n) (stored_root_message b.tree b.n) l))
      ∙ (λ t. walked (stored_root_message_lem F H (all_held cs) W a B t) (stored_root_message_lem F H (all_held ds) W' b B' t) l)
      ∙ ap (λ (c : Comparison). cond (same_list (F (root_message_for F (all_held cs))) (F (root_message_for F (all_held ds)))) c roots_differ)
      (cond_same (same_list (root_message_for F (all_held cs)) (root_message_for F (all_held ds))) (found l) (found (lowest (free F cs ds) 0 (entries (length cs)))) at_roots
      (λ e. ap found (one_lowest (same_eq (root_message_for F (all_held cs)) (root_message_for F (all_held ds)) e))))
    where
      l : Lowest
      l = lowest stored_free 0 (entries a.n)
