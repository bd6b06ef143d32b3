-- The audit of a copy: 2, 4, 5, 6, which is passed over while a root is unknown, then 10 at the lowest wrong tree index, then 11 at the lowest wrong byte of
-- the bitfield file.
use Rattle.std.specs.Prelude.{ℕ, zero, suc, ◌-◌, ◌≡◌, Bool, true, false, cond, not, ◌&&◌, ◌||◌, List}
use Rattle.answer_types.specs.Verdict.{Verdict, tree, bitfield, done}
use Rattle.byte_strings.specs.Lists.{run}
use Rattle.byte_strings.specs.Lowest.{Lowest, nowhere, first, lowest}
use Rattle.tree_index.specs.Tree.{index, depth, block, left_child, right_child, filled, entries}
use Rattle.bitfield.specs.Release.{stored_held}
use Rattle.bitfield.specs.Known.{stored_known}
use Rattle.file_format.specs.Sizes.{used_bitfield}
use Rattle.audit.specs.Audit.{parent_right, hole_right, refused_at, byte_right_by, leaf_from}
use Rattle.lookup.specs.Descent.{Ending, stopped, reached, unknown}
use Rattle.copy_checks.specs.Copy.{Copy, known}
use Rattle.copy_checks.specs.Descents.{copy_to_chunk}
use Rattle.copy_checks.specs.Least.{least_of}
use Rattle.copy_checks.specs.Checks.{partly_judged}

-- a wrong entry is the one at i where a test finds it so
abbrev pub wrong_unless : Bool → ℕ → Lowest
wrong_unless true i = nowhere
wrong_unless false i = first i

-- "an entry whose tree bit is clear must be zero and its chunk not held": whether the index i is the leaf of a chunk that is held
unfoldable pub held_leaf : List ℕ → ℕ → Bool
held_leaf bits i = elim (depth i) [ zero ↦ stored_held bits (block i) | suc d ↦ false ]

unfoldable pub both_known : Copy → ℕ → Bool
both_known c i = known c (left_child i) && known c (right_child i)

module _ (F : List ℕ → List ℕ) where
  -- a leaf whose data begin at `start`, by document 01's rule where its chunk is held and by that of released chunks where it is not
  abbrev pub leaf_right_from : Copy → ℕ → ℕ → Bool
  leaf_right_from c k start = leaf_from F c.tree c.content c.size (stored_held c.bitfield k) (index 0 k) start

  -- "It finds a known leaf's data by the place lookup's descent: a stop counts as a wrong entry at the stop, and a leaf whose descent, the roots to its left
  -- first, meets an unknown entry before a stop is itself wrong"
  unfoldable pub wrong_from : Copy → ℕ → Ending → Lowest
  wrong_from c k (stopped i) = first i
  wrong_from c k (reached j start) = wrong_unless (leaf_right_from c k start) (index 0 k)
  wrong_from c k (unknown i) = first (index 0 k)

  unfoldable pub wrong_by_leaf : Copy → ℕ → Lowest
  wrong_by_leaf c k = wrong_from c k (copy_to_chunk c k)

  -- "It judges a parent only where it and both children are known."
  unfoldable pub wrong_by_parent : Copy → ℕ → Lowest
  wrong_by_parent c i = wrong_unless (not (both_known c i) || parent_right F c.tree i) i

  -- of an entry that is known
  unfoldable pub wrong_by_known : Copy → ℕ → Lowest
  wrong_by_known c i = elim (depth i) [ zero ↦ wrong_by_leaf c (block i) | suc d ↦ wrong_by_parent c i ]

  -- "an entry whose tree bit is clear must be zero and its chunk not held, else this audit gives 10"; "It passes over data of unknown leaves."
  unfoldable pub wrong_by_unknown : Copy → ℕ → Lowest
  wrong_by_unknown c i = wrong_unless (hole_right F c.tree i && not (held_leaf c.bitfield i)) i

  -- what the audit finds wrong when it comes to the entry i: this entry, or the one at which the descent to it stops. A hole is zero, whatever its bit says
  unfoldable pub wrong_by : Copy → ℕ → Lowest
  wrong_by c i =
      cond (filled c.n i) (cond (known c i) (wrong_by_known c i) (wrong_by_unknown c i)) (wrong_unless (hole_right F c.tree i) i)

  -- "10 .. the lowest for the audit"
  unfoldable pub wrong_entry_of_copy : Copy → Lowest
  wrong_entry_of_copy c = least_of (run (wrong_by c) 0 (entries c.n))

-- "The audit of such a copy lets the tree bit of an entry that is no hole be 0": which of them are known is what the stored tree bits say
unfoldable pub known_bits : List ℕ → ℕ → ℕ → Bool
known_bits xs n i = filled n i && stored_known xs i

-- all other bits are 0, and the Index follows from the data bits
abbrev pub copy_byte_right : List ℕ → ℕ → ℕ → Bool
copy_byte_right xs n = byte_right_by (known_bits xs n) xs n

-- "11 .. the place is the lowest"
unfoldable pub wrong_byte_of_copy : Copy → Lowest
wrong_byte_of_copy c = lowest (copy_byte_right c.bitfield c.n) 32 (used_bitfield c.n - 32)

module _ (F : List ℕ → List ℕ) where
  unfoldable pub audit_copy : Copy → Verdict
  audit_copy c =
      partly_judged c (refused_at 10 tree (wrong_entry_of_copy F c) (refused_at 11 bitfield (wrong_byte_of_copy c) done))

  -- a copy is accepted when this audit answers done
  abbrev pub AcceptedCopy : Copy → Type 0
  AcceptedCopy c = audit_copy c ≡ done
