-- "Two archives are compared .. only when each holds all its pieces": which registers pass the checks of a comparison, and where it refuses with 18.
--
-- The notions in it: `lowest` (byte_strings, Lowest), `stored_held` (bitfield, Release), `Slot` and `held_in` (file_format, Slots), `Register` and `Belongs` (file_format,
-- Belongs), `judged` and `register_checks` (checks, Checks), `Accepted` (audit, Audit), `whole_verdict` (Walk).
use Rattle.std.specs.Prelude.{◌≡◌, ℕ, ◌<◌, true, ◌↔◌, List, length}
use Rattle.answer_types.specs.Verdict.{tree, done, refused}
use Rattle.byte_strings.specs.Lowest.{first, lowest}
use Rattle.tree_index.specs.Tree.{index}
use Rattle.bitfield.specs.Release.{stored_held}
use Rattle.file_format.specs.Slots.{Slot, held_in}
use Rattle.file_format.specs.Belongs.{Register, Belongs}
use Rattle.checks.specs.Checks.{judged, register_checks}
use Rattle.audit.specs.Audit.{Accepted}
use Rattle.compare.specs.Walk.{whole_verdict}

-- a register that the audit accepts and whose stored data bits say that it holds all its chunks
pub record Whole (F : List ℕ → List ℕ) (r : Register) : Type 0 where
  pub accepted : Accepted F r
  pub held : (k : ℕ) → k < r.n → stored_held r.bitfield k ≡ true

-- what is claimed of every register
pub record NeedsWhole (F : List ℕ → List ℕ) (r : Register) : Type 0 where
  -- it passes exactly where it is such a register
  pub exactly : (whole_verdict F r ≡ done) ↔ Whole F r
  -- "It refuses with 18 .. a comparison that needs a chunk not held; the place is its leaf's tree index, the lowest for a comparison": of a register that
  -- passes the checks 2 to 6 and belongs to the chunks ss
  pub missing : (ss : List Slot) → Belongs F r ss → judged (register_checks r) done ≡ done → (k : ℕ) → lowest (held_in ss) 0 (length ss) ≡ first k
      → whole_verdict F r ≡ refused 18 (tree (index 0 k))

-- for every F
abbrev pub NeedsWholeForAll : Type 0
NeedsWholeForAll = (F : List ℕ → List ℕ) (r : Register) → NeedsWhole F r
