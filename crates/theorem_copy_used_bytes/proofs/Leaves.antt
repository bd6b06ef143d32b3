-- A stored leaf entry is the same of a copy and of the same cut to its used sizes. Assumes nothing.
use Prim.Native.Nat.{ℕ, ◌+◌, ◌<◌}
use mathlib.Core.Path.{◌≡◌, ap, ap₂, ◌∙◌}
use mathlib.Core.Bool.{true}
use mathlib.Core.List.{List}
use native.Mathlib.Nat.{mul-one}
use native.Mathlib.Omega.{arith}
use Rattle.answer_types.specs.Verdict.{Verdict, done, and_then}
use Rattle.tree_index.specs.Tree.{index, filled}
use Rattle.tree_index.proofs.Filled.{end_filled, filled_below}
use Rattle.stored_leaf.specs.StoredLeaf.{leaf_in, leaf_hash, leaf_length}
use Rattle.stored_leaf.proofs.Calls.{leaf_below, leaf_same, then_next, hash_same, length_same}
use Rattle.copy_checks.specs.Copy.{Copy, known}
use Rattle.copy_checks.specs.Checks.{copy_judged}
use Rattle.copy_stored_leaf.specs.StoredLeaf.{copy_leaf_verdict}
use Rattle.theorem_used_bytes.proofs.Cut.{hash_cut, size_cut}
use Rattle.theorem_copy_used_bytes.specs.Leaves.{LeavesUsed}
use Rattle.theorem_copy_used_bytes.proofs.Cut.{cut_copy, known_cut, judged_cut}
use Rattle.theorem_copy_used_bytes.proofs.UsedBytes.{by_cut}

leaf_filled : (n k : ℕ) → k < n → filled n (index 0 k) ≡ true
leaf_filled n k h = end_filled n 0 k (omega (arith, mul-one (k + 1)))

module _ (c : Copy) (k : ℕ) where
  says_cut : copy_leaf_verdict (cut_copy c) k ≡ copy_leaf_verdict c k
  unfolding copy_leaf_verdict
  says_cut =
      ap₂ and_then (judged_cut c done)
      (leaf_same (known (cut_copy c)) (known c) c.n k (λ h. known_cut c.bitfield c.n (index 0 k) (leaf_filled c.n k h)))

  -- a leaf that is told is there
  told_filled : copy_leaf_verdict c k ≡ done → filled c.n (index 0 k) ≡ true
  unfolding copy_leaf_verdict
  told_filled e = leaf_filled c.n k (leaf_below (known c) c.n k (then_next (copy_judged c done) (leaf_in (known c) c.n k) e))

  hash_of_cut : (out : List ℕ) → leaf_hash (copy_leaf_verdict (cut_copy c) k) (cut_copy c).tree k out ≡ leaf_hash (copy_leaf_verdict c k) c.tree k out
  hash_of_cut out =
      ap (λ (v : Verdict). leaf_hash v (cut_copy c).tree k out) says_cut
      ∙ hash_same (copy_leaf_verdict c k) (cut_copy c).tree c.tree k out (λ e. hash_cut c.tree c.n (index 0 k) (filled_below c.n (index 0 k) (told_filled e)))

  length_of_cut : leaf_length (copy_leaf_verdict (cut_copy c) k) (cut_copy c).tree k ≡ leaf_length (copy_leaf_verdict c k) c.tree k
  length_of_cut =
      ap (λ (v : Verdict). leaf_length v (cut_copy c).tree k) says_cut
      ∙ length_same (copy_leaf_verdict c k) (cut_copy c).tree c.tree k (λ e. size_cut c.tree c.n (index 0 k) (filled_below c.n (index 0 k) (told_filled e)))

pub leaves_used : LeavesUsed
leaves_used a b h =
    record {
      says = λ k. by_cut (λ c. copy_leaf_verdict c k) (λ c. says_cut c k) a b h;
      hash = λ k out. by_cut (λ c. leaf_hash (copy_leaf_verdict c k) c.tree k out) (λ c. hash_of_cut c k out) a b h;
      length = λ k. by_cut (λ c. leaf_length (copy_leaf_verdict c k) c.tree k) (λ c. length_of_cut c k) a b h;
    }
