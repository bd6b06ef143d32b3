use Rattle.std.proofs.Common.{◌≡◌, ℕ, ◌+◌, ◌-◌, ◌%◌, ◌^◌, ◌<◌, List, get_or, sym, refl, ap, ◌∙◌, arith, length-set}
use Rattle.byte_strings.specs.Numbers.{be}
use Rattle.coordinates.specs.Grouping.{word, difference}
use Rattle.coordinates.proofs.Words.{prior, prior_next, word_is, word_lt, difference_is}
use Rattle.coordinates.proofs.Planes.{filled_none, filled_turn, all_planes}
use Rattle.coordinates.proofs.write_planes.Goals as goal

pub loop-i-init : goal.loop-i-init
unfolding prior
loop-i-init c = (refl, filled_none _ _ _ c.requires.1)

pub read_be32-word-requires : goal.read_be32-word-requires
read_be32-word-requires c = omega (arith, c.requires.0.inside)

pub overflow_cast-word : goal.overflow_cast-word
overflow_cast-word c =
    let d = c.args.bytes.now in
    let i = c.loop-i.i in
    omega (arith, word_is d i _ c.read_be32-word.ensures, word_lt d i (λ j. (c.type_inv.bytes j).fits) (omega (arith, c.requires.0.counted)))

pub bounds-out-n : goal.bounds-out-n
bounds-out-n c = simp length-set (omega (arith, c.loop-i.invariant.1.long))

pub bounds-out-n-in-loop-i : goal.bounds-out-n-in-loop-i
bounds-out-n-in-loop-i c = simp length-set (omega (arith, c.loop-i.invariant.1.long))

pub bounds-out-n-in-loop-i-2 : goal.bounds-out-n-in-loop-i-2
bounds-out-n-in-loop-i-2 c = simp length-set (omega (arith, c.loop-i.invariant.1.long))

pub loop-i-preserved : goal.loop-i-preserved
loop-i-preserved c =
    let d = c.args.bytes.now in
    let i = c.loop-i.i in
    let read : c.read_be32-word.result ≡ word d i = word_is d i _ c.read_be32-word.ensures in
    let fits : c.read_be32-word.result < 2 ^ 32 = omega (arith, read, word_lt d i (λ j. (c.type_inv.bytes j).fits) (omega (arith, c.requires.0.counted))) in
    let e : (c.read_be32-word.result + (2 ^ 32 - c.loop-i.before)) % 2 ^ 32 ≡ difference d i =
    difference_is d i c.read_be32-word.result c.loop-i.before _ c.loop-i.invariant.0 read fits c.loop-i.auto.before-fits.fits refl in
    let v : (k : ℕ) → get_or c.be32-d.result k 0 ≡ get_or (be 4 (difference d i)) k 0 =
    λ k. ap (λ (l : List ℕ). get_or l k 0) (c.be32-d.ensures ∙ ap (be 4) e) in (
      read ∙ sym (prior_next (word d) i),
      filled_turn (λ k j. get_or (be 4 (difference d j)) k 0) c.args.n c.args.out.now c.requires.1 c.loop-i.out i _ _ _ _ _ _ _ _ c.loop-i-test.true
          refl refl refl refl (v 0) (v 1) (v 2) (v 3) c.loop-i.invariant.1,
    )

pub returns : goal.returns
returns c = all_planes c.args.bytes.now c.args.n c.args.out.now c.requires.1 c.loop-i.out c.loop-i.i (omega arith) c.loop-i.invariant.1
