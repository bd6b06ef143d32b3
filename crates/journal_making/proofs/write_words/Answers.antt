use native.Mathlib.Omega.{arith}
use mathlib.Core.Path.{refl}
use Prim.Native.Nat.{◌+◌}
use Rattle.journal_making.proofs.Puts.{words_none, words_next, words_all, words_long}
use Rattle.journal_making.proofs.write_words.Goals as goal

pub loop-i-init : goal.loop-i-init
loop-i-init c = (words_none _ _ c.args.numbers.now, refl)

pub loop-i-preserved : goal.loop-i-preserved
loop-i-preserved c =
    let w = words_next c.args.journal.now c.args.at c.args.numbers.now (omega arith) c.loop-i.journal _ _ c.loop-i.i (omega arith) c.loop-i.invariant.0
    c.be64.ensures c.copy_to.ensures in
    (w, words_long c.args.journal.now c.args.at c.args.numbers.now (omega arith) _ (c.loop-i.i + 1) (omega arith) (omega arith) w)

pub returns : goal.returns
returns c = words_all c.args.journal.now c.args.at c.args.numbers.now (omega arith) _ c.loop-i.i (omega arith) c.loop-i.invariant.0
