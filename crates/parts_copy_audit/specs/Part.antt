-- A part of a copy's audit. It makes that audit's checks, 2, 4, 5 and 6, which is passed over while a root is unknown, and then judges the tree entries of a
-- range, or the bitfield's entries of one, as that audit does.
use Rattle.std.specs.Prelude.{ℕ, ◌+◌, ◌*◌, List}
use Rattle.answer_types.specs.Verdict.{Verdict, tree, bitfield, done}
use Rattle.byte_strings.specs.Lists.{run}
use Rattle.byte_strings.specs.Lowest.{lowest}
use Rattle.tree_index.specs.Tree.{entries}
use Rattle.bitfield.specs.Image.{entry_count}
use Rattle.audit.specs.Audit.{refused_at}
use Rattle.copy_checks.specs.Copy.{Copy}
use Rattle.copy_checks.specs.Least.{least_of}
use Rattle.copy_checks.specs.Checks.{partly_judged}
use Rattle.copy_audit.specs.Audit.{wrong_by, copy_byte_right}
use Rattle.parts_audit.specs.Range.{within}

-- 10 at the lowest that is found wrong when the audit comes to the tree entries from a on and before b. The place may lie outside the range, since a descent
-- to a leaf may stop elsewhere
unfoldable pub copy_tree_part : (List ℕ → List ℕ) → Copy → ℕ → ℕ → Verdict
copy_tree_part F c a b = partly_judged c (refused_at 10 tree (least_of (run (wrong_by F c) a (within (entries c.n) a b))) done)

-- 11 at the lowest wrong byte of the bitfield's entries from a on and before b
unfoldable pub copy_bitfield_part : Copy → ℕ → ℕ → Verdict
copy_bitfield_part c a b =
    partly_judged c (refused_at 11 bitfield (lowest (copy_byte_right c.bitfield c.n) (32 + 3328 * a) (3328 * within (entry_count c.n) a b)) done)
