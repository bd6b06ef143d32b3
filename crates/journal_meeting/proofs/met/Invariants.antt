-- `journal_meeting::met` meets its contract. Assumes nothing.
use Prim.Native.Nat.{◌-◌}
use Rattle.journal_meeting.proofs.Steps.{Mets}
use Rattle.journal_meeting.proofs.met.Given as goal

abbrev pub invariant-loop-place : goal.invariant-loop-place
invariant-loop-place l = Mets l.journal l.end l.file l.bytes l.at l.place

abbrev pub decreases-loop-place : goal.decreases-loop-place
decreases-loop-place l = l.end - l.place
