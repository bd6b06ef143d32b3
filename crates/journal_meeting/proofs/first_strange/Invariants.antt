-- `journal_meeting::first_strange` meets its contract. Assumes nothing.
use mathlib.Core.Path.{◌≡◌}
use Prim.Native.Nat.{◌-◌}
use lib.ListN.{length}
use Rattle.byte_strings.specs.Lowest.{lowest}
use Rattle.journal_meeting.specs.Between.{right_at}
use Rattle.journal_meeting.proofs.first_strange.Given as goal

abbrev pub invariant-loop-i : goal.invariant-loop-i
invariant-loop-i l = lowest (right_at l.file l.old l.new l.at) 0 (length l.new) ≡ lowest (right_at l.file l.old l.new l.at) l.i (length l.new - l.i)
