-- `journal::reading::old_lengths` meets its contract. Assumes nothing.
use mathlib.Core.Path.{◌≡◌}
use Prim.Native.Nat.{ℕ, ◌<◌}
use lib.ListN.{length, get_or}
use Rattle.journal.specs.Form.{length_of}
use Rattle.journal.specs.Places.{old_at}
use Rattle.journal.proofs.reading.old_lengths.Given as goal

abbrev pub invariant-loop-file : goal.invariant-loop-file
invariant-loop-file l = (length l.before-items ≡ 10) × ((k : ℕ) → k < l.file → get_or l.before-items k 0 ≡ length_of (old_at l.journal k))
