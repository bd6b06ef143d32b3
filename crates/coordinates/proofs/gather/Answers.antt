use Rattle.std.proofs.Common.{◌∙◌}
use Rattle.coordinates.proofs.Words.{gathered_four}
use Rattle.coordinates.proofs.gather.Goals as goal

pub returns : goal.returns
returns c = c.from_le_bytes.ensures ∙ gathered_four c.args.bytes.now c.args.n c.args.i c.requires.0.counted
