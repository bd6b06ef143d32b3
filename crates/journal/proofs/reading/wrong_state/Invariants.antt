-- `journal::reading::wrong_state` meets its contract. Assumes nothing.
use mathlib.Core.Path.{◌≡◌}
use Prim.Native.Nat.{◌-◌}
use Rattle.byte_strings.specs.Lowest.{lowest}
use Rattle.journal.specs.Reading.{state_right}
use Rattle.journal.proofs.reading.wrong_state.Given as goal

abbrev pub invariant-loop-file : goal.invariant-loop-file
invariant-loop-file l = lowest (state_right l.journal) 0 10 ≡ lowest (state_right l.journal) l.file (10 - l.file)
