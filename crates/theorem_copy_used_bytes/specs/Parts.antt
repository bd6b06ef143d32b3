-- No byte behind a used size is looked at by the parts of a copy's audit: two copies with the same used bytes (`SameUsed`, in UsedBytes) get the same.
--
-- The notions in it: `copy_tree_part` and `copy_bitfield_part` (parts_copy_audit, Part).
use Rattle.std.specs.Prelude.{ℕ, ◌≡◌, List}
use Rattle.copy_checks.specs.Copy.{Copy}
use Rattle.parts_copy_audit.specs.Part.{copy_tree_part, copy_bitfield_part}
use Rattle.theorem_copy_used_bytes.specs.UsedBytes.{SameUsed}

pub record PartsAlike (F : List ℕ → List ℕ) (a b : Copy) : Type 0 where
  pub tree : (i j : ℕ) → copy_tree_part F a i j ≡ copy_tree_part F b i j
  pub bitfield : (i j : ℕ) → copy_bitfield_part a i j ≡ copy_bitfield_part b i j

-- whatever function stands in for BLAKE2b
abbrev pub PartsUsed : Type 0
PartsUsed = (F : List ℕ → List ℕ) (a b : Copy) → SameUsed a b → PartsAlike F a b
