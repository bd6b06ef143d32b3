-- `listing_lines::build::stands` meets its contract. Assumes nothing.
use Prim.Native.Nat.{◌-◌}
use Rattle.listing_lines.proofs.Stands.{stands_short, stands_large, stands_last}
use Rattle.listing_lines.proofs.build.stands.Goals as goal

pub returns-then-left-lt4 : goal.returns-then-left-lt4
returns-then-left-lt4 c = stands_short c.args.input.now c.args.at (4096 - c.args.size) c.requires.0 c.if-left-lt4.true

pub returns-then-size-len : goal.returns-then-size-len
returns-then-size-len c =
    stands_large c.args.input.now c.args.at (4096 - c.args.size) c.requires.0 c.read_be32-len.result c.if-left-lt4.false
    c.read_be32-len.ensures c.if-size-len.true

pub returns : goal.returns
returns c =
    stands_last c.args.input.now c.args.at (4096 - c.args.size) c.requires.0 c.read_be32-len.result c.if-left-lt4.false
    c.read_be32-len.ensures c.if-size-len.false
