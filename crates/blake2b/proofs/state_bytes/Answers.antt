use mathlib.Core.Path.{◌≡◌, ap, ◌∙◌}
use Rattle.blake2b.proofs.Output.{words_out, words_none, words_more, words_all, word_written}
use borrow.Author.Rules.{rules}
use native.Mathlib.Omega.{arith}
use Rattle.blake2b.proofs.state_bytes.Goals as goal

pub loop-i-init : goal.loop-i-init
loop-i-init c = words_none c.args.h

pub loop-i-preserved : goal.loop-i-preserved
loop-i-preserved c =
    words_more c.args.h c.loop-i.i c.loop-i.out _ (search (rules, c.well_formed)) c.loop-i-test.true c.loop-i.invariant
    (c.copy_from_slice.ensures.after ∙ c.to_le_bytes.ensures ∙ word_written _ (search (rules, c.well_formed)))

pub returns : goal.returns
returns c =
    let e : c.loop-i.i ≡ 8 = omega arith in
    c.loop-i.invariant ∙ ap (words_out c.args.h) e ∙ words_all c.args.h (search (rules, c.well_formed))
