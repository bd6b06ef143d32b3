-- No byte behind a used size is looked at where records are read and paths are sought: two registers with the same used bytes (`SameUsed`, in
-- UsedBytes) get the same from these calls.
--
-- The notions in it: `header_in` and `node_in` (record_find, ChunkRecords) and `find_in` (record_find, Finding).
use Rattle.std.specs.Prelude.{ℕ, ◌≡◌, List}
use Rattle.file_format.specs.Belongs.{Register}
use Rattle.record_find.specs.ChunkRecords.{header_in, node_in}
use Rattle.record_find.specs.Finding.{find_in}
use Rattle.theorem_used_bytes.specs.UsedBytes.{SameUsed}

pub record RecordsAlike (F : List ℕ → List ℕ) (a b : Register) : Type 0 where
  pub header : (c : ℕ) → header_in F a c ≡ header_in F b c
  pub node : (c : ℕ) → node_in F a c ≡ node_in F b c
  pub found : (path : List ℕ) → find_in F a path ≡ find_in F b path

abbrev pub RecordsUsed : Type 0
RecordsUsed = (F : List ℕ → List ℕ) (a b : Register) → SameUsed a b → RecordsAlike F a b
