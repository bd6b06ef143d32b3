-- `journal::reading::gap` meets its contract. Assumes nothing.
use mathlib.Core.Path.{◌≡◌}
use Prim.Native.Nat.{◌-◌}
use Rattle.byte_strings.specs.Lowest.{lowest}
use Rattle.journal.specs.Reading.{is_full}
use Rattle.journal.proofs.reading.gap.Given as goal

abbrev pub invariant-loop-file : goal.invariant-loop-file
invariant-loop-file l = lowest (is_full l.journal l.covered) 0 10 ≡ lowest (is_full l.journal l.covered) l.file (10 - l.file)
