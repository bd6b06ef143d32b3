-- The first i words stand at the front; a turn puts one more behind them.
use Rattle.std.proofs.Common.{◌≡◌}
use Rattle.byte_strings.specs.Lists.{put}
use Rattle.coordinates.specs.Grouping.{words, restored}
use Rattle.coordinates.proofs.Words.{prior}
use Rattle.coordinates.proofs.write_words.Given as goal

abbrev pub invariant-loop-i : goal.invariant-loop-i
invariant-loop-i l = (l.word ≡ prior (restored l.bytes) l.i) × (l.out ≡ put l.initial.out 0 (words (restored l.bytes) l.i))
