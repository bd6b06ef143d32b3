-- No byte behind a used size is looked at where a stored leaf entry is asked for: two registers with the same used bytes (`SameUsed`, in UsedBytes) get the same.
--
-- The notions in it: `leaf_verdict`, `leaf_hash` and `leaf_length` (stored_leaf, StoredLeaf).
use Rattle.std.specs.Prelude.{ℕ, ◌≡◌, List}
use Rattle.file_format.specs.Belongs.{Register}
use Rattle.stored_leaf.specs.StoredLeaf.{leaf_verdict, leaf_hash, leaf_length}
use Rattle.theorem_used_bytes.specs.UsedBytes.{SameUsed}

pub record LeavesAlike (a b : Register) : Type 0 where
  pub says : (k : ℕ) → leaf_verdict a k ≡ leaf_verdict b k
  pub hash : (k : ℕ) (out : List ℕ) → leaf_hash (leaf_verdict a k) a.tree k out ≡ leaf_hash (leaf_verdict b k) b.tree k out
  pub length : (k : ℕ) → leaf_length (leaf_verdict a k) a.tree k ≡ leaf_length (leaf_verdict b k) b.tree k

abbrev pub LeavesUsed : Type 0
LeavesUsed = (a b : Register) → SameUsed a b → LeavesAlike a b
