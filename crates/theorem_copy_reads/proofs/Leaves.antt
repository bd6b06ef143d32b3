-- A stored leaf entry is the same of two copies that agree on what is known. Assumes nothing.
use Prim.Native.Nat.{ℕ, ◌+◌}
use mathlib.Core.Path.{◌≡◌, refl, ap, ◌∙◌}
use mathlib.Core.Bool.{Bool, true, false, cond}
use mathlib.Core.List.{List, [], ◌∷◌}
use native.Mathlib.Nat.{mul-one}
use native.Mathlib.Omega.{arith}
use borrow.Author.Tests.{ltb-true}
use lib.Dec.{ltb}
use Rattle.answer_types.specs.Verdict.{Spot, Verdict, tree, done, refused, and_then}
use Rattle.tree_index.specs.Tree.{index, filled}
use Rattle.tree_index.proofs.Filled.{end_filled}
use Rattle.bitfield.specs.Known.{stored_known}
use Rattle.checks.proofs.Judged.{judged_done}
use Rattle.stored_leaf.specs.StoredLeaf.{leaf_in, leaf_hash, leaf_length}
use Rattle.stored_leaf.proofs.Calls.{then_next, hash_same, length_same}
use Rattle.copy_checks.specs.Copy.{Copy}
use Rattle.copy_checks.specs.Checks.{copy_judged}
use Rattle.copy_stored_leaf.specs.StoredLeaf.{copy_leaf_verdict}
use Rattle.theorem_copy_reads.proofs.Checks.{Agreed, hash_same as stored_hash_lem, size_same, one, two, copy_same}

known_must : (b : Bool) (at : Spot) → cond b done (refused 20 at) ≡ done → b ≡ true
known_must true at e = refl
known_must false at e = let z : ◌≡◌ {A = ℕ} 0 1 = cc in absurd (omega arith)

-- a leaf that is told is there, and known
told : (bits : List ℕ) (n k : ℕ) → leaf_in (stored_known bits) n k ≡ done → (filled n (index 0 k) ≡ true) × (stored_known bits (index 0 k) ≡ true)
unfolding leaf_in
told bits n k e =
    let a = judged_done (record { number = 9; right = ltb k n } ∷ []) (cond (stored_known bits (index 0 k)) done (refused 20 (tree (index 0 k)))) e in
    let h = ltb-true k n a.0.0 in
    (end_filled n 0 k (omega (arith, mul-one (k + 1))), known_must (stored_known bits (index 0 k)) (tree (index 0 k)) a.1)

module _ (t u bits : List ℕ) (n : ℕ) (g : Agreed t u bits n) (content : List ℕ) (size k : ℕ) where
  abbrev a : Copy
  a = one t u bits n g content size

  abbrev b : Copy
  b = two t u bits n g content size

  pub leaf_says_lem : copy_leaf_verdict a k ≡ copy_leaf_verdict b k
  unfolding copy_leaf_verdict
  leaf_says_lem = ap (λ (v : Verdict). and_then v (leaf_in (stored_known bits) n k)) (copy_same t u bits n g content size done)

  both : copy_leaf_verdict b k ≡ done → (filled n (index 0 k) ≡ true) × (stored_known bits (index 0 k) ≡ true)
  unfolding copy_leaf_verdict
  both e = told bits n k (then_next (copy_judged b done) (leaf_in (stored_known bits) n k) e)

  pub leaf_hashes_lem : (out : List ℕ) → leaf_hash (copy_leaf_verdict a k) t k out ≡ leaf_hash (copy_leaf_verdict b k) u k out
  leaf_hashes_lem out =
      ap (λ (v : Verdict). leaf_hash v t k out) leaf_says_lem
      ∙ hash_same (copy_leaf_verdict b k) t u k out (λ e. let h = both e in stored_hash_lem t u bits n g (index 0 k) h.0 h.1)

  pub leaf_lengths_lem : leaf_length (copy_leaf_verdict a k) t k ≡ leaf_length (copy_leaf_verdict b k) u k
  leaf_lengths_lem =
      ap (λ (v : Verdict). leaf_length v t k) leaf_says_lem
      ∙ length_same (copy_leaf_verdict b k) t u k (λ e. let h = both e in size_same t u bits n g (index 0 k) h.0 h.1)
