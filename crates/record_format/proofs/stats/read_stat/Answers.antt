-- Three fields behind three others; nothing may be left, and the mode must be there.
use Rattle.record_format.proofs.Nine.{stat_first, stat_second, stat_third, stat_left, stat_whole}
use Rattle.record_format.proofs.stats.read_stat.Goals as goal

pub returns-in_err-first : goal.returns-in_err-first
returns-in_err-first c = rw c.from_residual.ensures (stat_first c.args.d.now c.in_err-first.ensures)

pub returns-in_err-second : goal.returns-in_err-second
returns-in_err-second c =
    rw c.from_residual-in_err-second.ensures (stat_second c.args.d.now c.in_ok-first.first c.in_ok-first.ensures c.in_err-second.ensures)

pub returns-in_err-third : goal.returns-in_err-third
returns-in_err-third c =
    rw c.from_residual-in_err-third.ensures
    (stat_third c.args.d.now c.in_ok-first.first c.in_ok-first.ensures c.in_ok-second.second c.in_ok-second.ensures c.in_err-third.ensures)

pub returns-then-third-d : goal.returns-then-third-d
returns-then-third-d c =
    stat_left c.args.d.now c.in_ok-first.first c.in_ok-first.ensures c.in_ok-second.second c.in_ok-second.ensures
    c.in_ok-third.third c.in_ok-third.ensures c.if-third-d.true

pub returns : goal.returns
returns c =
    stat_whole c.args.d.now c.in_ok-first.first c.in_ok-first.ensures c.in_ok-second.second c.in_ok-second.ensures
    c.in_ok-third.third c.in_ok-third.ensures c.if-third-d.false c.with_mode.result c.with_mode.ensures
