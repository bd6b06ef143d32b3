use native.Mathlib.Omega.{arith}
use mathlib.Core.Path.{sym, ◌∙◌, subst}
use mathlib.Core.List.{List}
use Prim.Native.Nat.{ℕ}
use Rattle.journal.proofs.Behind.{range_room}
use Rattle.journal.proofs.Steps.{Walks, walks_start, walks_cut, walks_off, walks_on, walks_end, follows_has, stop_fits, covered_said, gap_at, gap_none}
use Rattle.journal.proofs.Steps.{none_found, own_place, stop_said, allowed}
use Rattle.journal.proofs.reading.walk.Goals as goal

pub loop-at-init : goal.loop-at-init
loop-at-init c =
    let j = c.args.journal.now in
    (omega arith, subst (λ (cs : List ℕ). Walks j c.args.end 0 0 cs 184) (sym c.old_lengths.ensures) (walks_start j c.args.end))

pub returns-in_default : goal.returns-in_default
returns-in_default c =
    let j = c.args.journal.now in
    let p = c.loop-at.progress in
    walks_cut j c.args.end p.last p.reach p.covered c.loop-at.at c.loop-at.invariant.1 (omega arith)
    (none_found j c.args.end c.loop-at.at _ c.in_default.not-Some c.range_at.ensures)

pub allows-requires : goal.allows-requires
allows-requires c = (omega arith, own_place _ _ _ _ c.in-Some.ensures)

pub returns-then-not-allows : goal.returns-then-not-allows
returns-then-not-allows c =
    let j = c.args.journal.now in
    let p = c.loop-at.progress in
    walks_off j c.args.end p.last p.reach p.covered c.loop-at.at c.loop-at.invariant.1 (omega arith) c.in-Some.ensures.is
    (allowed j c.args.end c.loop-at.at _ c.in-Some.ensures p.last p.reach p.covered _ _ c.allows.ensures c.if-not-allows.true)

pub pass-requires : goal.pass-requires
pass-requires c =
    let j = c.args.journal.now in
    let p = c.loop-at.progress in
    let w = c.in-Some.ensures.reads in
    let t = allowed j c.args.end c.loop-at.at _ c.in-Some.ensures p.last p.reach p.covered _ _ c.allows.ensures c.if-not-allows.false in
    let f = follows_has j p.last p.reach p.covered c.loop-at.at t in (
      omega (arith, f.file, w.file),
      stop_fits j p.last p.reach p.covered c.loop-at.at (λ i. (c.type_inv.journal i).fits) (omega arith) t _ _ w.offset w.size,
    )

pub loop-at-smaller : goal.loop-at-smaller
loop-at-smaller c = let r = range_room c.in-Some.ensures in omega arith

pub loop-at-preserved : goal.loop-at-preserved
loop-at-preserved c =
    let j = c.args.journal.now in
    let p = c.loop-at.progress in
    let w = c.in-Some.ensures in
    let r = range_room w in
    let t = allowed j c.args.end c.loop-at.at _ w p.last p.reach p.covered _ _ c.allows.ensures c.if-not-allows.false in
    let s = stop_said j c.args.end c.loop-at.at _ w in (
      omega arith,
      walks_on j c.args.end p.last p.reach p.covered c.loop-at.at c.loop-at.invariant.1 (omega arith) _ w t _ _ _ (c.pass.ensures.last ∙ w.reads.file)
          (c.pass.ensures.reach ∙ s) (covered_said j p.covered _ c.loop-at.at _ _ w.reads.file s c.pass.ensures.covered),
    )

pub returns-in-Some-gap : goal.returns-in-Some-gap
returns-in-Some-gap c =
    let j = c.args.journal.now in
    let p = c.loop-at.progress in
    gap_at j p.covered c.args.end c.in-Some-gap.file _ _ c.in-Some-gap.is c.gap.ensures
    (walks_end j c.args.end p.last p.reach p.covered c.loop-at.at c.loop-at.invariant.1 (omega arith) (omega arith))

pub returns-in-None : goal.returns-in-None
returns-in-None c =
    let j = c.args.journal.now in
    let p = c.loop-at.progress in
    gap_none j p.covered c.args.end _ _ c.in-None.is c.gap.ensures
    (walks_end j c.args.end p.last p.reach p.covered c.loop-at.at c.loop-at.invariant.1 (omega arith) (omega arith))
