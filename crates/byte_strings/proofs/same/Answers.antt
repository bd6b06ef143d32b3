use mathlib.Core.Path.{◌∙◌}
use Rattle.byte_strings.proofs.Lists.{pairs_same}
use Rattle.byte_strings.proofs.same.Goals as goal

pub returns : goal.returns
returns c = c.eq.ensures ∙ pairs_same c.args.a.now c.args.b.now
