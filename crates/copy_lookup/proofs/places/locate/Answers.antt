-- `copy_lookup::places::locate` meets its contract: the checks of a copy, and what comes behind them. Assumes nothing.
use Prim.Native.Nat.{◌^◌, ◌<◌}
use mathlib.Core.Path.{sym, ◌∙◌}
use native.Mathlib.Omega.{arith}
use Rattle.answer_types.specs.Meaning.{said}
use Rattle.copy_checks.specs.Copy.{Copy, copy_of}
use Rattle.copy_lookup.proofs.Calls.{copy_searched, byte_by}
use Rattle.copy_lookup.proofs.places.locate.Goals as goal

pub locate_behind-requires : goal.locate_behind-requires
locate_behind-requires c =
    let given : Copy = copy_of c.args.tree.now c.args.bitfield.now c.args.content.now c.args.n c.args.size in
    let h : c.args.size < 2 ^ 64 = omega arith in
    λ e. copy_searched given (sym e ∙ c.judge-checked.ensures) h

pub returns : goal.returns
returns c =
    let given : Copy = copy_of c.args.tree.now c.args.bitfield.now c.args.content.now c.args.n c.args.size in
    c.locate_behind.ensures ∙ byte_by given (said c.judge-checked.result) c.judge-checked.ensures c.args.offset.0
