-- The checks, and what comes behind them.
use Prim.Native.Nat.{◌^◌, ◌<◌}
use mathlib.Core.Path.{◌∙◌}
use native.Mathlib.Omega.{arith}
use Rattle.blake2b.specs.Hash.{node_hash}
use Rattle.copy_checks.specs.Copy.{Copy, copy_of}
use Rattle.copy_records.proofs.Chunk.{copy_readable, copy_found_by}
use Rattle.copy_records.proofs.finding.find.Goals as goal

pub find_behind-requires : goal.find_behind-requires
find_behind-requires c =
    let given : Copy = copy_of c.args.tree.now c.args.bitfield.now c.args.content.now c.args.n c.args.size in
    let h : c.args.size < 2 ^ 64 = omega arith in
    copy_readable (given) c.judge-checked.ensures h

pub returns : goal.returns
returns c =
    let given : Copy = copy_of c.args.tree.now c.args.bitfield.now c.args.content.now c.args.n c.args.size in
    c.find_behind.ensures ∙ copy_found_by (given) c.judge-checked.ensures node_hash c.args.path.now
