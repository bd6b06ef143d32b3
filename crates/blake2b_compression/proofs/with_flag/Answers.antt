-- Where the flag holds, `flagged` is `inverted`.
use Rattle.std.proofs.Common.{Bool, sym, ap}
use Rattle.blake2b_compression.specs.Compression.{inverted, flagged}
use Rattle.blake2b_compression.proofs.with_flag.Goals as goal

pub returns-then-last : goal.returns-then-last
unfolding inverted
returns-then-last c = ap (λ (f : Bool). flagged f c.args.x) (sym c.if-last.true)
