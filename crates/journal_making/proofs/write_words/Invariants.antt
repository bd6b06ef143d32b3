-- `journal_making::write_words` meets its contract. The loop's invariant: the first i numbers stand there. Assumes nothing.
use mathlib.Core.Path.{◌≡◌}
use lib.ListN.{length, take}
use Rattle.byte_strings.specs.Lists.{put}
use Rattle.journal.specs.Form.{words}
use Rattle.journal_making.proofs.write_words.Given as goal

abbrev pub invariant-loop-i : goal.invariant-loop-i
invariant-loop-i l = (l.journal ≡ put l.initial.journal l.at (words (take l.i l.numbers))) × (length l.journal ≡ length l.initial.journal)
