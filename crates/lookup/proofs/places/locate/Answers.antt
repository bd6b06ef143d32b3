-- `lookup::places::locate` meets its contract: the checks 2 to 6, and what comes behind them. Assumes nothing.
use Prim.Native.Nat.{◌^◌, ◌<◌}
use mathlib.Core.Path.{sym, ◌∙◌}
use native.Mathlib.Omega.{arith}
use Rattle.answer_types.specs.Meaning.{said}
use Rattle.lookup.proofs.Calls.{searched, byte_by}
use Rattle.lookup.proofs.places.locate.Goals as goal

pub locate_behind-requires : goal.locate_behind-requires
locate_behind-requires c =
    let h : c.args.size < 2 ^ 64 = omega arith in
    λ e. searched _ (sym e ∙ c.judge-checked.ensures) h

pub returns : goal.returns
returns c =
    c.locate_behind.ensures ∙ byte_by _ (said c.judge-checked.result) c.judge-checked.ensures c.args.offset.0
