use mathlib.Core.Path.{◌∙◌}
use Rattle.byte_strings.proofs.Numbers.{read_8}
use Rattle.byte_strings.proofs.read_be64.Goals as goal

pub returns : goal.returns
returns c = c.from_be_bytes.ensures ∙ read_8 c.args.s.now c.args.at c.requires
