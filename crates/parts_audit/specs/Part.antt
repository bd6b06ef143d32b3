-- A part of a register's audit. It makes the audit's checks, 2 to 6, and then judges the tree entries of a range, or the bitfield's entries of one, as the
-- audit does. What lies wrong outside the range changes nothing.
use Rattle.std.specs.Prelude.{ℕ, ◌+◌, ◌*◌, List}
use Rattle.answer_types.specs.Verdict.{Verdict, tree, bitfield, done}
use Rattle.tree_index.specs.Tree.{entries}
use Rattle.bitfield.specs.Image.{entry_count}
use Rattle.file_format.specs.Belongs.{Register}
use Rattle.checks.specs.Checks.{judged, register_checks}
use Rattle.audit.specs.Audit.{lowest, entry_right, refused_at, byte_right}
use Rattle.parts_audit.specs.Range.{within}

-- 10 at the lowest wrong one of the tree entries from a on and before b
unfoldable pub tree_part : (List ℕ → List ℕ) → Register → ℕ → ℕ → Verdict
tree_part F r a b =
    judged (register_checks r)
    (refused_at 10 tree (lowest (entry_right F r.tree r.bitfield r.content r.n r.size) a (within (entries r.n) a b)) done)

-- 11 at the lowest wrong byte of the bitfield's entries from a on and before b, of 3328 bytes each behind the header
unfoldable pub bitfield_part : Register → ℕ → ℕ → Verdict
bitfield_part r a b =
    judged (register_checks r)
    (refused_at 11 bitfield (lowest (byte_right r.bitfield r.n) (32 + 3328 * a) (3328 * within (entry_count r.n) a b)) done)
