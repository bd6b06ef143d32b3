use mathlib.Core.Path.{◌∙◌}
use Rattle.byte_strings.proofs.Numbers.{written_8}
use Rattle.byte_strings.proofs.be64.Goals as goal

pub returns : goal.returns
returns c = c.to_be_bytes.ensures ∙ written_8 c.args.x c.ranges.x.fits
