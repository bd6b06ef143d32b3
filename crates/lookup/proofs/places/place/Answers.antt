-- `lookup::places::place` meets its contract: the checks 2 to 6, and what comes behind them. Assumes nothing.
use Prim.Native.Nat.{◌^◌, ◌<◌}
use mathlib.Core.Path.{sym, ◌∙◌}
use native.Mathlib.Omega.{arith}
use Rattle.answer_types.specs.Meaning.{said}
use Rattle.lookup.proofs.Calls.{searched, place_by}
use Rattle.lookup.proofs.places.place.Goals as goal

pub place_behind-requires : goal.place_behind-requires
place_behind-requires c =
    let h : c.args.size < 2 ^ 64 = omega arith in
    λ e. (searched _ (sym e ∙ c.judge-checked.ensures) h).searched

pub returns : goal.returns
returns c =
    c.place_behind.ensures ∙ place_by _ (said c.judge-checked.result) c.judge-checked.ensures c.args.chunk.0
