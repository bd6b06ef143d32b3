-- A stored leaf entry is the same of a register and of the same cut to its used sizes. Assumes nothing.
use Prim.Native.Nat.{ℕ, ◌+◌, ◌<◌}
use mathlib.Core.Path.{◌≡◌, ap, ◌∙◌}
use mathlib.Core.List.{List}
use native.Mathlib.Nat.{mul-one}
use native.Mathlib.Omega.{arith}
use Rattle.answer_types.specs.Verdict.{Verdict, done, and_then}
use Rattle.tree_index.specs.Tree.{index, entries}
use Rattle.tree_index.proofs.Filled.{end_filled, filled_below}
use Rattle.file_format.specs.Belongs.{Register}
use Rattle.checks.specs.Checks.{Check, judged, register_checks}
use Rattle.lookup.specs.Descent.{always}
use Rattle.stored_leaf.specs.StoredLeaf.{leaf_in, leaf_verdict, leaf_hash, leaf_length}
use Rattle.stored_leaf.proofs.Calls.{leaf_below, then_next, hash_same, length_same}
use Rattle.theorem_used_bytes.specs.Leaves.{LeavesUsed}
use Rattle.theorem_used_bytes.proofs.Cut.{cut, hash_cut, size_cut, checks_cut}
use Rattle.theorem_used_bytes.proofs.Reading.{by_cut}

module _ (r : Register) (k : ℕ) where
  says_cut : leaf_verdict (cut r) k ≡ leaf_verdict r k
  unfolding leaf_verdict
  says_cut = ap (λ (cs : List Check). and_then (judged cs done) (leaf_in always r.n k)) (checks_cut r)

  -- a leaf that is told lies among the entries
  told_below : leaf_verdict r k ≡ done → index 0 k < entries r.n
  unfolding leaf_verdict
  told_below e =
      let h = leaf_below always r.n k (then_next (judged (register_checks r) done) (leaf_in always r.n k) e) in
      filled_below r.n (index 0 k) (end_filled r.n 0 k (omega (arith, mul-one (k + 1))))

  hash_of_cut : (out : List ℕ) → leaf_hash (leaf_verdict (cut r) k) (cut r).tree k out ≡ leaf_hash (leaf_verdict r k) r.tree k out
  hash_of_cut out =
      ap (λ (v : Verdict). leaf_hash v (cut r).tree k out) says_cut
      ∙ hash_same (leaf_verdict r k) (cut r).tree r.tree k out (λ e. hash_cut r.tree r.n (index 0 k) (told_below e))

  length_of_cut : leaf_length (leaf_verdict (cut r) k) (cut r).tree k ≡ leaf_length (leaf_verdict r k) r.tree k
  length_of_cut =
      ap (λ (v : Verdict). leaf_length v (cut r).tree k) says_cut
      ∙ length_same (leaf_verdict r k) (cut r).tree r.tree k (λ e. size_cut r.tree r.n (index 0 k) (told_below e))

pub leaves_used : LeavesUsed
leaves_used a b h =
    record {
      says = λ k. by_cut (λ r. leaf_verdict r k) (λ r. says_cut r k) a b h;
      hash = λ k out. by_cut (λ r. leaf_hash (leaf_verdict r k) r.tree k out) (λ r. hash_of_cut r k out) a b h;
      length = λ k. by_cut (λ r. leaf_length (leaf_verdict r k) r.tree k) (λ r. length_of_cut r k) a b h;
    }
