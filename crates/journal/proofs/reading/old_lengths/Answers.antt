use Rattle.std.proofs.Common.{◌<◌, ◌≢◌, length, arith, get_or-set_other, get_or-set_same, below_more}
use Rattle.std.proofs.Math.ListN.{length-set}
use mathlib.Core.Path.{ap, ◌∙◌}
use Rattle.journal.specs.Form.{length_of}
use Rattle.journal.proofs.Steps.{ten_lengths}
use Rattle.journal.proofs.reading.old_lengths.Goals as goal

pub loop-file-preserved : goal.loop-file-preserved
loop-file-preserved c = (
  simp length-set c.loop-file.invariant.0,
  below_more _ _
      (λ k h. let ne : k ≢ c.loop-file.file = omega arith in rw get_or-set_other (c.loop-file.invariant.1 k h))
      (let lt : c.loop-file.file < length c.loop-file.before-items = omega (arith, c.loop-file.invariant.0) in
      rw get_or-set_same (c.old_length.ensures ∙ ap length_of c.states_at.ensures.old)),
)

pub returns : goal.returns
returns c = ten_lengths _ _ c.loop-file.invariant.0 (λ i h. c.loop-file.invariant.1 i (omega arith))
