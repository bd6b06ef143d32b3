-- `lookup::places::held_place` meets its contract: the checks 2 to 6, and what comes behind them. Assumes nothing.
use Prim.Native.Nat.{◌^◌, ◌<◌}
use mathlib.Core.Path.{sym, ◌∙◌}
use native.Mathlib.Omega.{arith}
use Rattle.answer_types.specs.Meaning.{said}
use Rattle.lookup.proofs.Calls.{searched_held, held_by}
use Rattle.lookup.proofs.places.held_place.Goals as goal

pub held_place_behind-requires : goal.held_place_behind-requires
held_place_behind-requires c =
    let h : c.args.size < 2 ^ 64 = omega arith in
    λ e. searched_held _ (sym e ∙ c.judge-checked.ensures) h

pub returns : goal.returns
returns c =
    c.held_place_behind.ensures ∙ held_by _ (said c.judge-checked.result) c.judge-checked.ensures c.args.chunk.0
