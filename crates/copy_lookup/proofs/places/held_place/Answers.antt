-- `copy_lookup::places::held_place` meets its contract: the checks of a copy, and what comes behind them. Assumes nothing.
use Prim.Native.Nat.{◌^◌, ◌<◌}
use mathlib.Core.Path.{sym, ◌∙◌}
use native.Mathlib.Omega.{arith}
use Rattle.answer_types.specs.Meaning.{said}
use Rattle.copy_checks.specs.Copy.{Copy, copy_of}
use Rattle.copy_lookup.proofs.Calls.{copy_searched_held, held_by}
use Rattle.copy_lookup.proofs.places.held_place.Goals as goal

pub held_place_behind-requires : goal.held_place_behind-requires
held_place_behind-requires c =
    let given : Copy = copy_of c.args.tree.now c.args.bitfield.now c.args.content.now c.args.n c.args.size in
    let h : c.args.size < 2 ^ 64 = omega arith in
    λ e. copy_searched_held given (sym e ∙ c.judge-checked.ensures) h

pub returns : goal.returns
returns c =
    let given : Copy = copy_of c.args.tree.now c.args.bitfield.now c.args.content.now c.args.n c.args.size in
    c.held_place_behind.ensures ∙ held_by given (said c.judge-checked.result) c.judge-checked.ensures c.args.chunk.0
