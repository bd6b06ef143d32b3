-- Each way out by the tests that led there.
use Prim.Native.Nat.{◌+◌}
use native.Mathlib.Omega.{arith}
use Rattle.file_format.specs.Sizes.{most_chunks}
use Rattle.append_needs.proofs.Answers.{both_above}
use Rattle.append_needs.proofs.count_after.Goals as goal

pub returns-then-n-gt1048576 : goal.returns-then-n-gt1048576
returns-then-n-gt1048576 c = let a = c.args in both_above a.n (a.n + a.count) most_chunks (omega arith) c.if-n-gt1048576.true

pub returns-then-count-gt1048576 : goal.returns-then-count-gt1048576
returns-then-count-gt1048576 c = let a = c.args in both_above a.count (a.n + a.count) most_chunks (omega arith) c.if-count-gt1048576.true
