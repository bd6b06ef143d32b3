-- The checks, and what comes behind them.
use Prim.Native.Nat.{◌^◌, ◌<◌}
use mathlib.Core.Path.{◌∙◌}
use native.Mathlib.Omega.{arith}
use Rattle.blake2b.specs.Hash.{node_hash}
use Rattle.file_format.specs.Belongs.{Register}
use Rattle.checks.specs.Lent.{register_of}
use Rattle.record_find.proofs.Search.{readable, found_by}
use Rattle.record_find.proofs.finding.find.Goals as goal

pub find_behind-requires : goal.find_behind-requires
find_behind-requires c =
    let given : Register = register_of c.args.tree.now c.args.signatures.now c.args.bitfield.now c.args.content.now c.args.n c.args.s c.args.size in
    let h : c.args.size < 2 ^ 64 = omega arith in
    readable (given) c.judge-checked.ensures h

pub returns : goal.returns
returns c =
    let given : Register = register_of c.args.tree.now c.args.signatures.now c.args.bitfield.now c.args.content.now c.args.n c.args.s c.args.size in
    c.find_behind.ensures ∙ found_by (given) c.judge-checked.ensures node_hash c.args.path.now
