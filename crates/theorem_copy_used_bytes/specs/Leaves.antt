-- No byte behind a used size is looked at where a stored leaf entry of a copy is asked for: two copies with the same used bytes (`SameUsed`, in UsedBytes) get the same.
--
-- The notions in it: `leaf_hash` and `leaf_length` (stored_leaf, StoredLeaf), `copy_leaf_verdict` (copy_stored_leaf, StoredLeaf).
use Rattle.std.specs.Prelude.{ℕ, ◌≡◌, List}
use Rattle.stored_leaf.specs.StoredLeaf.{leaf_hash, leaf_length}
use Rattle.copy_checks.specs.Copy.{Copy}
use Rattle.copy_stored_leaf.specs.StoredLeaf.{copy_leaf_verdict}
use Rattle.theorem_copy_used_bytes.specs.UsedBytes.{SameUsed}

pub record LeavesAlike (a b : Copy) : Type 0 where
  pub says : (k : ℕ) → copy_leaf_verdict a k ≡ copy_leaf_verdict b k
  pub hash : (k : ℕ) (out : List ℕ) → leaf_hash (copy_leaf_verdict a k) a.tree k out ≡ leaf_hash (copy_leaf_verdict b k) b.tree k out
  pub length : (k : ℕ) → leaf_length (copy_leaf_verdict a k) a.tree k ≡ leaf_length (copy_leaf_verdict b k) b.tree k

abbrev pub LeavesUsed : Type 0
LeavesUsed = (a b : Copy) → SameUsed a b → LeavesAlike a b
