use mathlib.Core.Path.{◌∙◌}
use Rattle.byte_strings.proofs.Numbers.{written_4}
use Rattle.byte_strings.proofs.be32.Goals as goal

pub returns : goal.returns
returns c = c.to_be_bytes.ensures ∙ written_4 c.args.x c.ranges.x.fits
