-- No byte behind a used size is looked at by the parts of an audit and of the comparing walk: two registers with the same used bytes (`SameUsed`, in UsedBytes) get
-- the same.
--
-- The notions in it: `tree_part` and `bitfield_part` (parts_audit, Part), `held_then` (compare, Walk), `roots_part` and `walk_part` (parts_compare, Part).
use Rattle.std.specs.Prelude.{ℕ, ◌≡◌, List}
use Rattle.answer_types.specs.Verdict.{done}
use Rattle.file_format.specs.Belongs.{Register}
use Rattle.compare.specs.Walk.{held_then}
use Rattle.parts_audit.specs.Part.{tree_part, bitfield_part}
use Rattle.parts_compare.specs.Part.{roots_part, walk_part}
use Rattle.theorem_used_bytes.specs.UsedBytes.{SameUsed}

-- the parts that look at one register
pub record PartsAlike (F : List ℕ → List ℕ) (a b : Register) : Type 0 where
  pub tree : (i j : ℕ) → tree_part F a i j ≡ tree_part F b i j
  pub bitfield : (i j : ℕ) → bitfield_part a i j ≡ bitfield_part b i j
  pub held : held_then a done ≡ held_then b done

-- and at two, whatever function stands in for BLAKE2b
pub record PartsUsed : Type 0 where
  pub one : (F : List ℕ → List ℕ) (a b : Register) → SameUsed a b → PartsAlike F a b
  pub roots : (F : List ℕ → List ℕ) (a b c d : Register) → SameUsed a b → SameUsed c d → roots_part F a c ≡ roots_part F b d
  pub walk : (a b c d : Register) → SameUsed a b → SameUsed c d → (i j : ℕ) → walk_part a c i j ≡ walk_part b d i j
