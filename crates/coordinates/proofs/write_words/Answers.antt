use Rattle.std.proofs.Common.{◌≡◌, ℕ, ◌+◌, ◌*◌, ◌%◌, ◌^◌, List, length, sym, refl, ap, ◌∙◌, ap₂, arith}
use Rattle.byte_strings.specs.Lists.{put}
use Rattle.byte_strings.specs.Numbers.{be}
use Rattle.byte_strings.proofs.Numbers.{length_be}
use Rattle.coordinates.specs.Grouping.{words, restored}
use Rattle.coordinates.proofs.Words.{prior, prior_next, words_none, words_more, gathered_lt, restored_is}
use Rattle.coordinates.proofs.write_words.Goals as goal

pub loop-i-init : goal.loop-i-init
unfolding prior
loop-i-init c = (refl, sym (words_none c.args.out.now (restored c.args.bytes.now)))

pub copy_to-requires : goal.copy_to-requires
copy_to-requires c = omega (arith, ap length c.be32-d.ensures, length_be 4 ((c.loop-i.word + c.gather-word.result) % 2 ^ 32))

pub loop-i-preserved : goal.loop-i-preserved
loop-i-preserved c =
    let g = c.args.bytes.now in
    let i = c.loop-i.i in
    let e : (c.loop-i.word + c.gather-word.result) % 2 ^ 32 ≡ restored g i =
    restored_is g i _ c.loop-i.word c.loop-i.invariant.0
    (gathered_lt g i (λ j. (c.type_inv.bytes j).fits))
    (ap (λ (x : ℕ). (c.loop-i.word + x) % 2 ^ 32) c.gather-word.ensures) in (
      e ∙ sym (prior_next (restored g) i),
      c.copy_to.ensures
          ∙ ap₂ (λ (l d : List ℕ). put l (4 * i) d) c.loop-i.invariant.1 (c.be32-d.ensures ∙ ap (be 4) e)
          ∙ words_more c.args.out.now (restored g) i,
    )

pub returns : goal.returns
returns c = c.loop-i.invariant.1 ∙ ap (λ (k : ℕ). put c.args.out.now 0 (words (restored c.args.bytes.now) k)) (omega arith)
