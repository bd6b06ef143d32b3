use mathlib.Core.Path.{◌∙◌}
use Rattle.byte_strings.proofs.Numbers.{read_4}
use Rattle.byte_strings.proofs.read_be32.Goals as goal

pub returns : goal.returns
returns c = c.from.ensures ∙ c.from_be_bytes.ensures ∙ read_4 c.args.s.now c.args.at c.requires
