-- Parts that cover the files give together what the whole call gives, its place included. The answers of parts are put together by the lowest number, and
-- of one number the lowest place (`together`); those of a walk by the lowest index.
--
-- The notions in it: `audit` and `and_then` (audit, Audit), `audit_copy` (copy_audit, Audit), `compare`, `held_then`, `unless_refused`, `unless_told` and `found`
-- (compare, Walk), `tree_part` and `bitfield_part` (parts_audit, Part), `together` (parts_audit, Together), `copy_tree_part` and `copy_bitfield_part`
-- (parts_copy_audit, Part), `roots_part` and `walk_part` (parts_compare, Part), `least_of` (copy_checks, Least), `Covers` (Cover).
use Rattle.std.specs.Prelude.{ℕ, ◌≡◌, List, map}
use Rattle.answer_types.specs.Verdict.{Verdict, done, and_then}
use Rattle.byte_strings.specs.Lowest.{Lowest, nowhere, first}
use Rattle.file_format.specs.Belongs.{Register}
use Rattle.audit.specs.Audit.{audit}
use Rattle.compare.specs.Walk.{Comparison, first_refused, second_refused, roots_differ, at_roots, at_index, equal, found, held_then, unless_refused, unless_told, compare}
use Rattle.copy_checks.specs.Copy.{Copy}
use Rattle.copy_checks.specs.Least.{least_of}
use Rattle.copy_audit.specs.Audit.{audit_copy}
use Rattle.parts_audit.specs.Part.{tree_part, bitfield_part}
use Rattle.parts_audit.specs.Together.{together}
use Rattle.parts_copy_audit.specs.Part.{copy_tree_part, copy_bitfield_part}
use Rattle.parts_compare.specs.Part.{roots_part, walk_part}
use Rattle.theorem_parts.specs.Cover.{Part, tree_entries, bitfield_entries, Range, Covers, CoversIndexes}

module _ (F : List ℕ → List ℕ) where
  -- what a part of an audit answers
  abbrev pub answer : Register → Part → Verdict
  answer r (tree_entries a b) = tree_part F r a b
  answer r (bitfield_entries a b) = bitfield_part r a b

  abbrev pub answer_of_copy : Copy → Part → Verdict
  answer_of_copy c (tree_entries a b) = copy_tree_part F c a b
  answer_of_copy c (bitfield_entries a b) = copy_bitfield_part c a b

  -- what all parts of one audit give
  unfoldable pub answers : Register → List Part → Verdict
  answers r ps = together (map (answer r) ps)

  unfoldable pub answers_of_copy : Copy → List Part → Verdict
  answers_of_copy c ps = together (map (answer_of_copy c) ps)

-- the index that a part of the walk names
abbrev pub named : Comparison → Lowest
named (at_index i) = first i
named equal = nowhere
named roots_differ = nowhere
named at_roots = nowhere
named (first_refused m at) = nowhere
named (second_refused m at) = nowhere

-- the lowest that the parts of the walk name
unfoldable pub walked_by : Register → Register → List Range → Comparison
walked_by a b rs = found (least_of (map (λ r. named (walk_part a b r.from r.to)) rs))

module _ (F : List ℕ → List ℕ) where
  -- the first register's checks 2 to 6 and 18, its parts, the second's, then the roots, then the parts of the walk
  unfoldable pub compared_by : Register → Register → List Part → List Part → List Range → Comparison
  compared_by a b ps qs rs =
      unless_refused (and_then (held_then a done) (answers F a ps)) (and_then (held_then b done) (answers F b qs))
      (unless_told (roots_part F a b) (walked_by a b rs))

-- for every F, register and list of parts that covers its files
abbrev pub AuditInPartsForAll : Type 0
AuditInPartsForAll = (F : List ℕ → List ℕ) (r : Register) (ps : List Part) → Covers r.n ps → answers F r ps ≡ audit F r

-- for every copy
abbrev pub CopyAuditInPartsForAll : Type 0
CopyAuditInPartsForAll = (F : List ℕ → List ℕ) (c : Copy) (ps : List Part) → Covers c.n ps → answers_of_copy F c ps ≡ audit_copy F c

-- and for every two registers
abbrev pub CompareInPartsForAll : Type 0
CompareInPartsForAll =
    (F : List ℕ → List ℕ) (a b : Register) (ps qs : List Part) (rs : List Range) → Covers a.n ps → Covers b.n qs → CoversIndexes a.n rs
    → compared_by F a b ps qs rs ≡ compare F a b
