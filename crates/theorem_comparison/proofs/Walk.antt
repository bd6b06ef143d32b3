-- The walk over two chunk sequences, and what each of its answers says of them.
-- Assumes nothing.
use Prim.Native.Nat.{ℕ, ◌<◌, zero-le}
use mathlib.Core.Path.{◌≡◌, sym, ap, ◌∙◌}
use mathlib.Core.Logic.{◌≢◌, inl, inr}
use mathlib.Core.Bool.{Bool, true, false, cond, not, ◌&&◌, true≢false}
use mathlib.Core.List.{List}
use native.Mathlib.Omega.{arith}
use lib.ListN.{length}
use borrow.Author.Tests.{not-true, not-false}
use Rattle.byte_strings.specs.Lists.{same_list}
use Rattle.byte_strings.proofs.Lists.{same_eq, same_of}
use Rattle.byte_strings.proofs.Lowest.{Found, all, one, found_lowest}
use Rattle.tree_index.specs.Tree.{filled, entries}
use Rattle.tree_index.proofs.Filled.{filled_below}
use Rattle.file_format.specs.Messages.{HashFunction}
use Rattle.file_format.specs.Images.{root_hash_for, root_message_for, message_for}
use Rattle.file_format.specs.Slots.{all_held, Within}
use Rattle.file_format.proofs.AllHeld.{chunks_hash}
use Rattle.audit.specs.Audit.{Lowest, lowest}
use Rattle.compare.specs.Walk.{Side, Comparison, roots_differ, at_roots, at_index, equal, found, walk, collides}
use Rattle.theorem_comparison.specs.Demand3.{Collision, CollisionAt}
use Rattle.compare.proofs.Local.{and_left, and_right, same_false, false_same, Told, told}
use Rattle.theorem_comparison.proofs.Roots.{hash_for, same_roots_lem}

module _ (F : List ℕ → List ℕ) (cs ds : List (List ℕ)) where
  -- no collision at the tree index i, as the walk tests it
  abbrev pub free : ℕ → Bool
  free i = not (filled (length cs) i && collides (message_for F (all_held cs) i) (message_for F (all_held ds) i) (hash_for F cs i) (hash_for F ds i))

  abbrev side_for : List (List ℕ) → Side
  side_for xs = record { top = root_message_for F (all_held xs); message = message_for F (all_held xs); hash = hash_for F xs }

  -- the walk over two chunk sequences' own hashes and messages
  unfoldable pub walk_for : Comparison
  walk_for = walk F (side_for cs) (side_for ds) (length cs)

  -- the four answers, each with what it says
  pub data Answer (w : Comparison) : Type 0 where
    differ : w ≡ roots_differ → root_hash_for F (all_held cs) ≢ root_hash_for F (all_held ds) → Answer w
    roots : w ≡ at_roots → Collision F (root_message_for F (all_held cs)) (root_message_for F (all_held ds)) → Answer w
    place : (i : ℕ) → w ≡ at_index i → root_message_for F (all_held cs) ≡ root_message_for F (all_held ds) → CollisionAt F cs ds i → ((j : ℕ) → j < i → CollisionAt F cs ds j → ⊥) → Answer w
    same : w ≡ equal → root_message_for F (all_held cs) ≡ root_message_for F (all_held ds) → ((i : ℕ) → CollisionAt F cs ds i → ⊥) → Answer w

  -- the answer to one outcome of the three tests
  answer_of : Bool → Bool → Lowest → Comparison
  answer_of h m l = cond h (cond m (found l) at_roots) roots_differ

  module _ (H : HashFunction F) (W : Within (all_held cs)) (W' : Within (all_held ds)) where
    -- the test finds exactly the collisions, where the sequences have one number of chunks
    free_not : (i : ℕ) → free i ≡ true → CollisionAt F cs ds i → ⊥
    free_not i e c =
        true≢false (sym e ∙ (λ t. not (c.in_first t && (not (m t) && h t))))
      where
        m : same_list (message_for F (all_held cs) i) (message_for F (all_held ds) i) ≡ false
        m = false_same (message_for F (all_held cs) i) (message_for F (all_held ds) i) c.collision.differ

        h : same_list (hash_for F cs i) (hash_for F ds i) ≡ true
        h = same_of (hash_for F cs i) (hash_for F ds i)
            (chunks_hash F cs i c.in_first ∙ c.collision.one_hash ∙ sym (chunks_hash F ds i c.in_second))

    wrong_collides : (i : ℕ) → length cs ≡ length ds → free i ≡ false → CollisionAt F cs ds i
    wrong_collides i n e =
        record {
          in_first = f;
          in_second = g;
          collision = record {
            differ = same_false (message_for F (all_held cs) i) (message_for F (all_held ds) i) (not-true m (and_left (not m) h c));
            one_hash = sym (chunks_hash F cs i f) ∙ same_eq (hash_for F cs i) (hash_for F ds i) (and_right (not m) h c) ∙ chunks_hash F ds i g;
          };
        }
      where
        m : Bool
        m = same_list (message_for F (all_held cs) i) (message_for F (all_held ds) i)

        h : Bool
        h = same_list (hash_for F cs i) (hash_for F ds i)

        t : (filled (length cs) i && (not m && h)) ≡ true
        t = not-false (filled (length cs) i && (not m && h)) e

        f : filled (length cs) i ≡ true
        f = and_left (filled (length cs) i) (not m && h) t

        c : (not m && h) ≡ true
        c = and_right (filled (length cs) i) (not m && h) t

        g : filled (length ds) i ≡ true
        g = ap (λ (k : ℕ). filled k i) (sym n) ∙ f

    pub answer : Answer walk_for
    unfolding walk_for walk answer_of root_hash_for
    answer = go (told (root_hash_for F (all_held cs)) (root_hash_for F (all_held ds))) (told (root_message_for F (all_held cs)) (root_message_for F (all_held ds)))
        (found_lowest free 0 (entries (length cs)))
      where
        l : Lowest
        l = lowest free 0 (entries (length cs))

        go : Told (root_hash_for F (all_held cs)) (root_hash_for F (all_held ds)) → Told (root_message_for F (all_held cs)) (root_message_for F (all_held ds)) → Found free 0 (entries (length cs)) l
            → Answer walk_for
        go (inr p) q f = differ (λ t. answer_of (p.1 t) (same_list (root_message_for F (all_held cs)) (root_message_for F (all_held ds))) l) p.0
        go (inl p) (inr q) f = roots (λ t. answer_of (p.1 t) (q.1 t) l) (record { differ = q.0; one_hash = p.0 })
        go (inl p) (inl q) (all e h) =
            same (λ t. answer_of (p.1 t) (q.1 t) (e t)) q.0
            (λ i c. free_not i (h i zero-le (omega (arith, filled_below (length cs) i c.in_first))) c)
        go (inl p) (inl q) (one i e _ _ x h) =
            place i (λ t. answer_of (p.1 t) (q.1 t) (e t)) q.0
            (wrong_collides i (same_roots_lem F H cs ds W W' q.0).count x)
            (λ j b c. free_not j (h j zero-le b) c)
