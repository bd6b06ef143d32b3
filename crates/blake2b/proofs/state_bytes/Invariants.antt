-- The bytes of the first i words stand over zeros.
use mathlib.Core.Path.{◌≡◌}
use Rattle.blake2b.proofs.Output.{words_out}
use Rattle.blake2b.proofs.state_bytes.Given as goal

abbrev pub invariant-loop-i : goal.invariant-loop-i
invariant-loop-i l = l.out ≡ words_out l.h l.i
