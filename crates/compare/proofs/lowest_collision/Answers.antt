use Rattle.std.proofs.Common.{arith}
use Rattle.compare.proofs.Same.{read_started}
use Rattle.compare.proofs.Walked.{meeting_none, meeting_start, meeting_first, meeting_second, meeting_next, meeting_found, meeting_done}
use Rattle.compare.proofs.lowest_collision.Goals as goal

pub returns-then-end-from : goal.returns-then-end-from
returns-then-end-from c =
    let a = c.args in
    meeting_none a.tree.now a.content.now a.tree2.now a.content2.now a.n a.from.0 a.end.0 c.if-end-from.true

pub start_at-start-requires : goal.start_at-start-requires
start_at-start-requires c = (c.requires.0, omega (arith, c.if-end-from.false, c.requires.2))

pub start_at-start2-requires : goal.start_at-start2-requires
start_at-start2-requires c = (c.requires.1, omega (arith, c.if-end-from.false, c.requires.2))

pub loop-index-init : goal.loop-index-init
loop-index-init c = meeting_start c.start_at-start.ensures c.start_at-start2.ensures

pub collides_at-requires : goal.collides_at-requires
collides_at-requires c = (meeting_first c.loop-index.invariant c.loop-index-test.true c.requires.0 c.requires.2, meeting_second c.loop-index.invariant c.loop-index-test.true c.requires.1 c.requires.2)

pub returns-then-collides_at : goal.returns-then-collides_at
returns-then-collides_at c = meeting_found c.loop-index.invariant c.loop-index-test.true c.collides_at.ensures c.if-collides_at.true

pub start_behind-start-requires : goal.start_behind-start-requires
start_behind-start-requires c = read_started (meeting_first c.loop-index.invariant c.loop-index-test.true c.requires.0 c.requires.2)

pub start_behind-start2-requires : goal.start_behind-start2-requires
start_behind-start2-requires c = read_started (meeting_second c.loop-index.invariant c.loop-index-test.true c.requires.1 c.requires.2)

pub loop-index-preserved : goal.loop-index-preserved
loop-index-preserved c =
    meeting_next c.loop-index.invariant
    c.loop-index-test.true c.collides_at.ensures c.if-collides_at.false c.start_behind-start.ensures c.start_behind-start2.ensures

pub returns : goal.returns
returns c = meeting_done c.loop-index.invariant c.loop-index-test.false
